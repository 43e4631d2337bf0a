use Rattle.std.proofs.Common.{◌≡◌, ◌++◌, drop, string_bytes}
use Rattle.c_text.specs.FileText.{members_text}
use Rattle.c_text.proofs.file.push_members.Given as goal

-- what stands there, with the members to come, is the whole
abbrev pub invariant-loop-k : goal.invariant-loop-k
invariant-loop-k l =
    string_bytes l.text
    ++ members_text l.naming.prefix.now l.naming.empty.now l.kind l.k (drop l.k l.members)
    ≡ string_bytes l.initial.text ++ members_text l.naming.prefix.now l.naming.empty.now l.kind 0 l.members
