-- What a contract sees of a writer whose output is held back.
use Rattle.std.specs.Prelude.{◌≡◌, ℕ, List, Bool, true, Option, Result, Ok, Err}
use Rattle.std.specs.Io.Buffered.{writer_buffer, writer_contents, writer_inner}
use Rattle.stream_text.specs.declared.held.Asking.{Asking}
use Rattle.stream_text.specs.declared.held.Held.{Held}

-- the writer itself
abbrev pub held_writer : {W : Type 0} → Held W → W
held_writer h = writer_inner h.writer

-- the bytes that it is yet to get
abbrev pub held_back : {W : Type 0} → Held W → List ℕ
held_back h = writer_buffer h.writer

-- the writer's bytes and then those that are held back, where those are known
abbrev pub held_contents : {W : Type 0} → (W → Option (List ℕ)) → Held W → Option (List ℕ)
held_contents contents h = writer_contents contents h.writer

-- whether the writer has refused output
abbrev pub held_failed : {W : Type 0} → Held W → Bool
held_failed h = h.failed

-- the reader whose bytes are read
abbrev pub asking_source : {R W : Type 0} → Asking R W → R
asking_source a = a.source

-- a call that fails is noted, and is not forgotten
abbrev pub NotesFailure : {X E : Type 0} → Result X E → Bool → Bool → Type 0
NotesFailure (Ok x) before now = now ≡ before
NotesFailure (Err e) before now = now ≡ true
