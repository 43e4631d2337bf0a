-- What the program prints of a file that is refused, and of any refusal.
use Rattle.std.specs.Prelude.{ℕ, Bool, List, [], ◌++◌, if◌then◌else◌, Result, Ok, Err, codes, string_bytes}
use Rattle.std.specs.Fmt.{decimal}
use Rattle.leaf_core.specs.declared.typing.ExprFault.{ExprFault}
use Rattle.leaf_core.specs.declared.typing.ExprFault.TheVariants as X
use Rattle.net_tree.specs.Position.{position_spelling}
use Rattle.net_text.specs.declared.fault.NetTextFault.{NetTextFault}
use Rattle.net_text.specs.declared.fault.NetTextFault.TheVariants as V
use Rattle.net_types.specs.declared.fault.TypeFault.{TypeFault}
use Rattle.net_types.specs.declared.fault.TypeFault.TheVariants as T
use Rattle.cert_check.specs.declared.answer.CheckFault.{CheckFault}
use Rattle.cert_check.specs.declared.answer.CheckFault.TheVariants as C
use Rattle.yampa_run.specs.declared.fault.RunReport.{RunReport}
use Rattle.yampa_run.specs.declared.preparation.Job.{Job}
use Rattle.yampa_run.specs.declared.preparation.Job.TheVariants as J
use Rattle.yampa_run.specs.declared.preparation.Refusal.{Refusal}
use Rattle.yampa_run.specs.declared.preparation.Refusal.TheVariants as Refused
use Rattle.yampa_run.specs.declared.refused.Role.{Role}
use Rattle.yampa_run.specs.declared.refused.Role.TheVariants as R

-- what a line on a file of that role begins with
abbrev pub role_words : Role → List ℕ
role_words R.Network = codes "network: "
role_words R.Source = codes "source: "
role_words R.Target = codes "target: "
role_words R.Certificate = codes "certificate: "

-- a line on a file of that role
abbrev pub line_on : Role → List ℕ → List ℕ
line_on r what = role_words r ++ what

-- the line on a file that can't be read
abbrev pub unread_words : Role → List ℕ
unread_words r = line_on r (codes "cannot be read")

-- what is wrong at a byte
abbrev pub byte_words : Role → List ℕ → ℕ → List ℕ
byte_words r what at = line_on r (what ++ (codes " at byte " ++ decimal at))

-- the line on a file whose text is refused
abbrev pub text_words : Role → NetTextFault → List ℕ
text_words r V.Header = line_on r (codes "header")
text_words r (V.Syntax at) = byte_words r (codes "syntax") at
text_words r (V.Number at) = byte_words r (codes "number") at
text_words r (V.TooDeep at) = byte_words r (codes "nesting") at
text_words r V.TooLong = line_on r (codes "too long")
text_words r V.Memory = codes "memory"

-- what is wrong at a place in the network
abbrev pub place_words : Role → List ℕ → List ℕ → List ℕ
place_words r what P = line_on r what ++ position_spelling P

-- the line on an expression that is refused
abbrev pub expression_words : Role → List ℕ → ExprFault → List ℕ
expression_words r P X.Mismatch = place_words r (codes "mismatch in ") P
expression_words r P X.NoParam = place_words r (codes "no parameter in ") P
expression_words r P X.TooDeep = place_words r (codes "expression too deep in ") P
expression_words r P X.Memory = codes "memory"

-- the line on a network that has no types within the limits
abbrev pub type_words : Role → TypeFault → List ℕ
type_words r (T.Expr P fault) = expression_words r P fault
type_words r (T.Joint P) = place_words r (codes "types differ at ") P
type_words r (T.NoOld P) = place_words r (codes "no old at ") P
type_words r (T.NotEvent P) = place_words r (codes "no event at ") P
type_words r (T.NotPair P) = place_words r (codes "no pair at ") P
type_words r (T.Members P) = place_words r (codes "members at ") P
type_words r (T.Number P) = place_words r (codes "number at ") P
type_words r T.TooDeep = line_on r (codes "too deep")
type_words r T.TooHeavy = line_on r (codes "too heavy")
type_words r T.Memory = codes "memory"

-- what is wrong at a step of a certificate, counted from 1
abbrev pub step_words : List ℕ → ℕ → List ℕ
step_words what n = line_on R.Certificate (what ++ (codes " at step " ++ decimal n))

-- the line on a certificate that doesn't lead from its source to its target
abbrev pub check_words : CheckFault → List ℕ
check_words C.InputsDiffer = line_on R.Certificate (codes "inputs differ")
check_words C.TooManySteps = line_on R.Certificate (codes "too many steps")
check_words (C.NoPosition n) = step_words (codes "no position") n
check_words (C.NoMatch n) = step_words (codes "no match") n
check_words (C.IllTyped n) = step_words (codes "ill typed") n
check_words C.EndsElsewhere = line_on R.Certificate (codes "ends elsewhere")
check_words C.Memory = codes "memory"

-- the line on a word that is no number of steps, and on one that is no position
abbrev pub no_number_words : List ℕ
no_number_words = codes "--first: no number"

abbrev pub no_place_words : List ℕ
no_place_words = codes "--at: no position"

-- the line on a word that no name may begin with, and on one that is no number of elements
abbrev pub no_name_words : List ℕ
no_name_words = codes "--name: no name"

abbrev pub no_most_words : List ℕ
no_most_words = codes "--most: no number"

-- the line on what is too large at a position; whether `--most` may help
abbrev pub too_large_words : List ℕ → List ℕ → Bool → List ℕ
too_large_words what P asks = place_words R.Network (what ++ codes " too large at ") P
    ++ (if asks then codes ": give --most" else [])

-- the line on a network that has no layout
abbrev pub no_layout_words : List ℕ
no_layout_words = line_on R.Network (codes "no layout")

-- the line on a position at which nothing stands in the network
abbrev pub not_there_words : List ℕ → List ℕ
not_there_words P = place_words R.Network (codes "no position ") P

-- the exit status of a job that is done: 1 where a line is printed behind its text
abbrev pub job_status : Job → ℕ
job_status (J.PrintAndRefuse text line) = 1
job_status _ = 0

-- the exit status of a refusal: its own, or 3 where memory was short
abbrev pub refusal_status : Refusal → ℕ
refusal_status (Refused.Line status line) = status
refusal_status Refused.Memory = 3

-- the exit status of a run: 0 where it answers a report, else that of its refusal
abbrev pub answer_status : Result RunReport Refusal → ℕ
answer_status (Ok report) = 0
answer_status (Err refusal) = refusal_status refusal

-- the line on standard error of a refusal, without its line feed
abbrev pub refusal_line : Refusal → List ℕ
refusal_line (Refused.Line status line) = string_bytes line
refusal_line Refused.Memory = codes "memory"
