-- ReadPieces, one behind the other.
use Rattle.std.proofs.Common.{◌≡◌, ◌+◌, ℕ, List, [], ◌∷◌, ◌++◌, length, length-append, Option, Some, None, refl, sym, ap, ◌∙◌, append_assoc, append-nil}
use Rattle.stream_text.specs.Pieces.{ArePieces, ReadPieces, ReadBy, bytes_read, piece_bytes}
use Rattle.stream_text.specs.Settling.{AsksAsNeeded}
use Rattle.stream_text.specs.TextLines.{front_lines}

pub bytes-append : (ps qs : ReadPieces) → bytes_read (ps ++ qs) ≡ bytes_read ps ++ bytes_read qs
bytes-append [] qs = refl
bytes-append (p ∷ ps) qs = ap (λ r. piece_bytes p ++ r) (bytes-append ps qs) ∙ sym (append_assoc (piece_bytes p) (bytes_read ps) (bytes_read qs))

-- behind other bytes too
pub bytes-behind : (bytes : List ℕ) (ps : ReadPieces) (p : Option (List ℕ)) → bytes ++ bytes_read (ps ++ p ∷ []) ≡ (bytes ++ bytes_read ps) ++ piece_bytes p
bytes-behind bytes ps p =
    ap (λ r. bytes ++ r) (bytes-append ps (p ∷ []) ∙ ap (λ r. bytes_read ps ++ r) (append-nil (piece_bytes p)))
    ∙ sym (append_assoc bytes (bytes_read ps) (piece_bytes p))

-- the bytes behind a piece
pub bytes-front : (bytes : List ℕ) (p : Option (List ℕ)) (ps : ReadPieces) → (bytes ++ piece_bytes p) ++ bytes_read ps ≡ bytes ++ bytes_read (p ∷ ps)
bytes-front bytes p ps = append_assoc bytes (piece_bytes p) (bytes_read ps)

-- pieces that may meet the end, behind some that don't
pub pieces-append : (end : Type 0) (ps qs : ReadPieces) → ArePieces ⊥ ps → ArePieces end qs → ArePieces end (ps ++ qs)
pieces-append end [] qs h k = k
pieces-append end (None ∷ ps) qs h k = pieces-append end ps qs h k
pieces-append end (Some [] ∷ ps) qs h k = absurd h.0
pieces-append end (Some (b ∷ bs) ∷ ps) qs h k = (h.0, pieces-append end ps qs h.1 k)

pub pieces-map : (end end' : Type 0) → (end → end') → (ps : ReadPieces) → ArePieces end ps → ArePieces end' ps
pieces-map end end' f [] h = tt
pieces-map end end' f (None ∷ ps) h = pieces-map end end' f ps h
pieces-map end end' f (Some [] ∷ ps) h = (f h.0, h.1)
pieces-map end end' f (Some (b ∷ bs) ∷ ps) h = (h.0, pieces-map end end' f ps h.1)

-- a piece more is asked for where those before settle no line
pub asks-more : (n : ℕ) (kept : List ℕ) (ps : ReadPieces) (p : Option (List ℕ)) → AsksAsNeeded n kept ps → front_lines n (kept ++ bytes_read ps) ≡ []
    → AsksAsNeeded n kept (ps ++ p ∷ [])
asks-more n kept [] p h u = (ap (front_lines n) (sym (append-nil kept)) ∙ u, tt)
asks-more n kept (q ∷ ps) p h u = (
  h.0,
  asks-more n (kept ++ piece_bytes q) ps p h.1 (ap (front_lines n) (bytes-front kept q ps) ∙ u),
)

-- a read that met the end settled no line, so where one is settled none did
pub never_at_end : (end : Type 0) (n : ℕ) (kept : List ℕ) (ps : ReadPieces) → ArePieces end ps → AsksAsNeeded n kept ps
    → (front_lines n (kept ++ bytes_read ps) ≡ [] → ⊥) → ArePieces ⊥ ps
never_at_end end n kept [] h a s = tt
never_at_end end n kept (None ∷ ps) h a s = never_at_end end n (kept ++ []) ps h a.1 (λ e. s (ap (front_lines n) (sym (bytes-front kept None ps)) ∙ e))
never_at_end end n kept (Some [] ∷ ps) h a s =
    absurd (s (ap (λ qs. front_lines n (kept ++ bytes_read qs)) h.1 ∙ ap (front_lines n) (append-nil kept) ∙ a.0))
never_at_end end n kept (Some (b ∷ bs) ∷ ps) h a s = (
  h.0,
  never_at_end end n (kept ++ (b ∷ bs)) ps h.1 a.1 (λ e. s (ap (front_lines n) (sym (bytes-front kept (Some (b ∷ bs)) ps)) ∙ e)),
)

-- nothing was read yet
pub read_by_none : (end : Type 0) (reads : ℕ) → reads ≡ 0 → ReadBy end [] reads
read_by_none end reads e = record { pieces = []; are = tt; parts = refl; counts = e }

-- pieces more were read
pub read_by_more : (end : Type 0) (bytes : List ℕ) (reads reads' : ℕ) (ps : ReadPieces) → ReadBy ⊥ bytes reads → ArePieces end ps
    → reads' ≡ reads + length ps → ReadBy end (bytes ++ bytes_read ps) reads'
read_by_more end bytes reads reads' ps h a e = record {
  pieces = h.pieces ++ ps;
  are = pieces-append end h.pieces ps h.are a;
  parts = ap (λ r. r ++ bytes_read ps) h.parts ∙ sym (bytes-append h.pieces ps);
  counts = e ∙ ap (λ n. n + length ps) h.counts ∙ sym (length-append h.pieces ps);
}

pub read_by_map : (end end' : Type 0) (bytes : List ℕ) (reads : ℕ) → (end → end') → ReadBy end bytes reads → ReadBy end' bytes reads
read_by_map end end' bytes reads f h = record { pieces = h.pieces; are = pieces-map end end' f h.pieces h.are; parts = h.parts; counts = h.counts }
