-- What a run writes.
use Rattle.std.specs.Prelude.{ℕ, suc, if◌then◌else◌, nat_eq, List, [], ◌∷◌, ◌++◌, Option}
use Rattle.sample_core.specs.Datum.{Datum}
use Rattle.sample_core.specs.Spelling.{spelling}
use Rattle.sample_core.specs.TypeTree.{TypeTree}
use Rattle.leaf_core.specs.Expression.{Expression}
use Rattle.leaf_core.specs.ExpressionValue.{value_of}
use Rattle.net_meaning.specs.Environment.{closed}
use Rattle.net_tree.specs.Height.{greatest}
use Rattle.net_tree.specs.Network.{Network}
use Rattle.net_meaning.specs.SignalFunction.{TimedList}
use Rattle.net_meaning.specs.TypedNetwork.{stream_of}
use Rattle.step_core.specs.EnvironmentVisits.{visits_of}
use Rattle.stream_text.specs.StreamText.{Samples, front, samples}
use Rattle.stream_text.specs.declared.fault.StreamFault.{StreamFault}

-- a value's spelling and a line feed
abbrev pub line_of_value : Datum → List ℕ
line_of_value v = spelling v ++ (10 ∷ [])

-- each value's spelling and a line feed
abbrev pub spelled_lines : List Datum → List ℕ
spelled_lines [] = []
spelled_lines (v ∷ vs) = spelling v ++ (10 ∷ spelled_lines vs)

-- how many line feeds there are
abbrev pub line_feeds : List ℕ → ℕ
line_feeds [] = 0
line_feeds (b ∷ bs) = if nat_eq b 10 then suc (line_feeds bs) else line_feeds bs

-- the bytes that a run writes, and the stream's fault that ends it
pub record Output : Type 0 where
  pub bytes : List ℕ
  pub fault : Option StreamFault

-- the lines of a network's stream meaning on the samples that a text holds, and the text's fault
abbrev pub output_on : Network Expression → Samples → Output
output_on net held = record { bytes = spelled_lines (stream_of net held.taken); fault = held.fault }

-- What a run of a network with inputs of type A writes on a text: the lines of its stream meaning
-- on the samples
-- before the first faulty line, and that line's fault.
abbrev pub output_of : TypeTree → Network Expression → List ℕ → Output
output_of A net text = output_on net (samples A text)

-- what a run writes on bytes that aren't known to be all of a text
abbrev pub front_output_of : TypeTree → Network Expression → List ℕ → Output
front_output_of A net bs = output_on net (front A bs)

-- the most nodes that a sample visits, 0 if there is none
abbrev pub most_visits_of : Network Expression → TimedList → ℕ
most_visits_of net xs = greatest (visits_of value_of net closed xs)
