use Rattle.std.proofs.Common.{◌≡◌, drop, find}
use Rattle.std.specs.Str.{bytes_eq}
use Rattle.esb_exports.proofs.choice.exact.Given as goal

abbrev pub invariant-loop-member : goal.invariant-loop-member
invariant-loop-member l = find (λ member. bytes_eq member.0 l.path) (drop l.member-index l.members) ≡ find (λ member. bytes_eq member.0 l.path) l.members
