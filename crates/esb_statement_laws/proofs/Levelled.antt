-- Statements are read exactly, level by level.
use Rattle.std.proofs.Common.{◌≡◌, ◌⊎◌, inl, inr, ℕ, zero, suc, ◌<◌, ◌≤◌, Bool, false, subst, arith}
use Rattle.std.proofs.lemmas.Bool.{cases_lt}
use Rattle.esb_token.specs.declared.token.Token.{Token}
use Rattle.esb_grammar.specs.declared.context.Context.{Context}
use Rattle.esb_grammar.specs.Edges.{takes_else}
use Rattle.esb_grammar.specs.Grammar.{IsItem, IsStatement}
use Rattle.esb_reader.specs.declared.node.Node.{Node}
use Rattle.esb_reader.specs.Places.{Text}
use Rattle.esb_reader.specs.Reader.{Reader, fail}
use Rattle.esb_reader.specs.Stands.{Syntax, Rule, row}
use Rattle.esb_statement_laws.specs.Sequels.{Keeps}
use Rattle.esb_statement_laws.specs.Marks.{nearest, statement_stops, ends_items}
use Rattle.esb_statement_laws.specs.Handed.{Handed, statements}
use Rattle.esb_statement_laws.specs.Exact.{ExactParts, Exact, IsLoop}
use Rattle.esb_statement_laws.specs.Items as all
use Rattle.esb_statement_laws.specs.Within.{handed, items_within, ItemsExact}
use Rattle.esb_statement_laws.specs.Loops.{for_statement}
use Rattle.esb_statement_laws.proofs.Chosen.{statement_rule, statement_leaves}
use Rattle.esb_statement_laws.proofs.Listed.{items_rule}
use Rattle.esb_statement_laws.proofs.Fors.{for_rule, loops_keep}

-- ---- the rules, where all parts are exact

module _ (text : Text) (c : Context) (n : ℕ) (r : Handed) (x : Exact text c n r) where
  loops : Rule text (statements (IsLoop text c)) n (suc n) statement_stops (for_statement text c n r)
  loops = for_rule text c n r x.parts.values x.bodies x.parts.heads

  pub statement_read : (d : Bool) → Rule text (statements (all.IsAllowed d text c)) n (suc n) statement_stops (all.statement text c n r d)
  statement_read d = statement_rule text c n r x loops d

  pub statement_keeps : (d : Bool) → Keeps text (λ y. nearest (takes_else y)) (all.statement text c n r d)
  statement_keeps d = statement_leaves text c n r x loops (loops_keep text c n r x.parts.values x.bodies x.parts.heads) d

  pub items_read : Rule text (row (statements (IsItem text c))) n (suc n) (λ _ t. ends_items t.kind) (all.items text c n r)
  items_read = items_rule text c n r x loops

-- ---- one level up

-- what is read within n levels is what is read below the next
raised : {A : Type 0} (text : Text) (S : Syntax A) (n : ℕ) (stops : A → Token → Bool) (read : Reader (Node A)) → Rule text S n (suc n) stops read → Rule text S (suc n) (suc n) stops read
raised text S n stops read rule = record {
  sound = λ i y j h. let s = rule.sound i y j h in record { good = s.good; levels = s.levels; fits = let f = s.fits in omega arith; spelled = s.spelled };
  complete = λ i y j s low stop. rule.complete i y j (record { good = s.good; levels = s.levels; fits = omega arith; spelled = s.spelled }) low stop;
}

-- nothing is read below none
none_read : {A : Type 0} (text : Text) (S : Syntax A) (stops : A → Token → Bool) → Rule text S 0 0 stops fail
none_read text S stops = record { sound = λ i y j h. cc; complete = λ i y j s low stop. absurd (omega arith) }

module _ (text : Text) (parts : ℕ → Handed) (exact : (n : ℕ) → ((m : ℕ) → m < n → ItemsExact text parts m) → (c : Context) → ExactParts text c n (handed text parts n)) where
  -- lists and statements within fewer levels
  record Below (n : ℕ) : Type 0 where
    lists : (m : ℕ) → m < n → ItemsExact text parts m
    inside : (c : Context) → Exact text c n (handed text parts n)

  none_below : (m : ℕ) → m < 0 → ItemsExact text parts m
  none_below m h = absurd (omega (arith, h))

  more_below : (n : ℕ) → Below n → (m : ℕ) → m < suc n → ItemsExact text parts m
  more_below n b m h = by_case (cases_lt m n)
    where
      by_case : (m < n) ⊎ (n ≤ m) → ItemsExact text parts m
      by_case (inl less) = b.lists m less
      by_case (inr more) = subst (ItemsExact text parts) (let same : n ≡ m = omega (arith, h, more) in same) (λ c. items_read text c n (handed text parts n) (b.inside c))

  below : (n : ℕ) → Below n
  unfolding handed
  below zero = record {
    lists = none_below;
    inside = λ c. record { parts = exact zero none_below c; lists = none_read text (row (statements (IsItem text c))) (λ _ t. ends_items t.kind); bodies = record { rule = none_read text (statements (IsStatement text c)) statement_stops; keeps = λ i y j h. cc } };
  }
  below (suc n) =
      let b = below n in
      record {
        lists = more_below n b;
        inside = λ c. record {
          parts = exact (suc n) (more_below n b) c;
          lists = raised text (row (statements (IsItem text c))) n (λ _ t. ends_items t.kind) (items_within text parts n c) (items_read text c n (handed text parts n) (b.inside c));
          bodies = record {
            rule = raised text (statements (IsStatement text c)) n statement_stops (all.statement text c n (handed text parts n) false) (statement_read text c n (handed text parts n) (b.inside c) false);
            keeps = statement_keeps text c n (handed text parts n) (b.inside c) false;
          };
        };
      }

  pub items_exact : (n : ℕ) → ItemsExact text parts n
  items_exact n c = items_read text c n (handed text parts n) ((below n).inside c)
