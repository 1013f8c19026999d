use Rattle.std.proofs.Common.{◌≡◌, ℕ, List, Result, Ok, Err, IsOk, OnOk, nat_eq, refl, ap, ◌∙◌, arith}
use Rattle.std.specs.Map.{lookup}
use Rattle.esb_flags.specs.declared.options.Options.{Options}
use Rattle.esb_core.specs.Known.{Known}
use Rattle.indexmap.specs.IndexMap.{insert_entry}
use Rattle.esb_core.proofs.Entries.{inserted}
use Rattle.std.proofs.lemmas.Bool.{false≢true}
use Rattle.esb_core.proofs.contexts.Contexts.make_and_begin.Goals as goal

-- what holds where the call succeeds, which it does
ok-of : {X F P : Type 0} (r : Result X F) → IsOk r → OnOk r P → P
ok-of (Ok x) is p = p
ok-of (Err e) is p = absurd (false≢true is)

known : (r : List ℕ) (a b : List (ℕ × Options)) (c d : List (ℕ × ℕ)) → a ≡ b → c ≡ d → ◌≡◌ {A = Known} (record { contexts = a; retired = r; active = c }) (record { contexts = b; retired = r; active = d })
known r a b c d one other = rw (one, other) refl

pub returns-clause-ok : goal.returns-clause-ok
returns-clause-ok c = rw (← c.self.view_is)
    (known _ _ _ _ _
    (c.in_ok-insert.ensures.entries ∙ inserted c.args.key c.args.options c.self.inside.options.entries (ap (λ (k : Known). lookup (nat_eq c.args.key) k.contexts) c.self.view_is ∙ c.requires.context))
    (ok-of c.insert-2.result (c.insert-2.ensures.succeeds (let room = c.in_ok-reserve.ensures.ok in omega (arith, room))) c.insert-2.ensures.entries
    ∙ ap (λ (es : List (ℕ × ℕ)). insert_entry nat_eq es c.args.key c.args.build) c.in_ok-reserve.ensures.entries
    ∙ inserted c.args.key c.args.build c.self.inside.active.entries (ap (λ (k : Known). lookup (nat_eq c.args.key) k.active) c.self.view_is ∙ c.requires.active)))
