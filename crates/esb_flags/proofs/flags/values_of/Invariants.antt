use Rattle.std.proofs.Common.{◌≡◌, ◌++◌, drop}
use Rattle.esb_flags.specs.Flags.{values_of}
use Rattle.esb_flags.proofs.flags.values_of.Given as goal

abbrev pub invariant-loop-word : goal.invariant-loop-word
invariant-loop-word l = l.values ++ values_of l.front (drop l.word-index l.words) ≡ values_of l.front l.words
