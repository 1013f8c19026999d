use Rattle.std.proofs.Common.{◌≡◌, drop}
use Rattle.esb_flags.specs.Flags.{value_of}
use Rattle.esb_flags.proofs.flags.value_of.Given as goal

abbrev pub invariant-loop-word : goal.invariant-loop-word
invariant-loop-word l = value_of l.front (drop l.word-index l.words) ≡ value_of l.front l.words
