use Rattle.std.proofs.Common.{◌≡◌, ◌++◌, drop}
use Rattle.std.specs.Prelude.{filter_map}
use Rattle.esb_flags.specs.Flags.{loader_of}
use Rattle.esb_flags.proofs.flags.loaders_of.Given as goal

abbrev pub invariant-loop-word : goal.invariant-loop-word
invariant-loop-word l = l.loaders ++ filter_map loader_of (drop l.word-index l.words) ≡ filter_map loader_of l.words
