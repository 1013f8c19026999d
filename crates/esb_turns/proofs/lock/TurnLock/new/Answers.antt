use Rattle.std.proofs.Common.{rules, arith, ◌≡◌, ◌∷◌, [], List, Option, Some, sym, subst, ◌<◌, ◌^◌}
use Rattle.atomic_table.specs.Table.{opening}
use Rattle.esb_turns.specs.Rule.{InTurn}
use Rattle.esb_turns.specs.Views.{newcomer}
use Rattle.esb_turns.proofs.ShareSteps.{opens}
use Rattle.esb_turns.proofs.lock.TurnLock.new.Goals as goal

pub new-requires : goal.new-requires
new-requires g c =
    let book = c.args.book in
    let is : c.push_reserved.new.self.items ≡ Some book ∷ [] = search rules in
    let few : c.args.callers < 2 ^ 32 = omega arith in
    let P : List (Option g.row.B.Denot) → Type 0 = λ slots. InTurn g.B.Book.entries g.B.Book.is_at_rest c.args.callers (opening (0 ∷ 0 ∷ []) slots (newcomer c.args.callers)) in
    subst P (sym is) (opens g.B.Book.entries g.B.Book.is_at_rest c.args.callers book c.requires.rest c.requires.empty c.requires.some few)
