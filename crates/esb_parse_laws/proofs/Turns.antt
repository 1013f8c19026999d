-- After as many turns as there are levels the readers no longer change: so they are those that they read by.
use Rattle.std.proofs.Common.{◌≡◌, ◌⊎◌, inl, inr, ℕ, zero, suc, ◌≤◌, refl, sym, ◌∙◌, subst, arith}
use Rattle.esb_grammar.specs.declared.context.Context.{Context}
use Rattle.esb_reader.specs.Places.{Text}
use Rattle.esb_statement_laws.specs.Within.{handed}
use Rattle.esb_value_laws.specs.Handed.{Tied}
use Rattle.esb_parse_laws.specs.Readers.{next, turns, value_below, values_below, head_below, items_below, readers}
use Rattle.esb_parse_laws.specs.Laws.{Knot, KnotRule, FixedRule, PartsRule}
use Rattle.esb_parse_laws.proofs.Agreeing.{SameAt, SameTo, next_same, values_same, expressions_same, lefts_same, lists_same}

pub last_or_less : (m n : ℕ) → m ≤ suc n → (m ≤ n) ⊎ (suc n ≡ m)
last_or_less zero n h = inl (omega arith)
last_or_less (suc m) zero h = inr (omega (arith, h))
last_or_less (suc m) (suc n) h = by_case (last_or_less m n (omega (arith, h)))
  where
    by_case : (m ≤ n) ⊎ (suc n ≡ m) → (suc m ≤ suc n) ⊎ (suc (suc n) ≡ suc m)
    by_case (inl low) = inl (omega (arith, low))
    by_case (inr same) = inr (omega (arith, same))

module _ (text : Text) where
  turn_same : (n : ℕ) → SameTo (turns text n) (turns text (suc n)) n
  unfolding turns
  turn_same zero zero low = record { one_is = λ c. refl; many_is = λ c. refl; heads_is = λ c. refl; items_is = λ c. refl }
  turn_same zero (suc m) low = absurd (omega (arith, low))
  turn_same (suc n) m low = next_same text (turns text n) (turns text (suc n)) n (turn_same n) m low

  last_turn : (n : ℕ) → SameAt (turns text n) (readers text) n
  unfolding value_below values_below head_below items_below
  last_turn n = record { one_is = λ c. refl; many_is = λ c. refl; heads_is = λ c. refl; items_is = λ c. refl }

  back_a_turn : (n m : ℕ) → SameAt (turns text n) (turns text (suc n)) m → SameAt (turns text n) (readers text) m → SameAt (turns text (suc n)) (readers text) m
  back_a_turn n m s t = record { one_is = λ c. sym (s.one_is c) ∙ t.one_is c; many_is = λ c. sym (s.many_is c) ∙ t.many_is c; heads_is = λ c. sym (s.heads_is c) ∙ t.heads_is c; items_is = λ c. sym (s.items_is c) ∙ t.items_is c }

  settled : (n : ℕ) → SameTo (turns text n) (readers text) n
  settled zero zero low = last_turn zero
  settled zero (suc m) low = absurd (omega (arith, low))
  settled (suc n) m low = by_case (settled n m) (last_or_less m n low)
    where
      by_case : (m ≤ n → SameAt (turns text n) (readers text) m) → (m ≤ n) ⊎ (suc n ≡ m) → SameAt (turns text (suc n)) (readers text) m
      by_case known (inl less) = back_a_turn n m (turn_same n m less) (known less)
      by_case known (inr same) = subst (SameAt (turns text (suc n)) (readers text)) same (last_turn (suc n))

  values_tied : Tied text (value_below text) (values_below text) (head_below text) (items_below text)
  unfolding value_below values_below head_below items_below turns
  values_tied = record {
    one_none = λ c. refl;
    many_none = λ c. refl;
    heads_none = λ c. refl;
    items_none = λ c. refl;
    one_next = λ c n. values_same text (turns text n) (readers text) c n (settled n);
    many_next = λ c n. expressions_same text (turns text n) (readers text) c n (settled n);
    heads_next = λ c n. lefts_same text (turns text n) (readers text) c n (settled n);
  }

  tied : Knot text (readers text)
  unfolding value_below values_below head_below items_below turns
  tied = record { values = values_tied; items_next = λ c n. lists_same text (turns text n) (readers text) n (settled n) c }

  one_is : (c : Context) (n : ℕ) → value_below text c n ≡ (next text (readers text)).one c n
  one_is c zero = values_tied.one_none c
  one_is c (suc n) = values_tied.one_next c n

  many_is : (c : Context) (n : ℕ) → values_below text c n ≡ (next text (readers text)).many c n
  many_is c zero = values_tied.many_none c
  many_is c (suc n) = values_tied.many_next c n

  heads_is : (c : Context) (n : ℕ) → head_below text c n ≡ (next text (readers text)).heads c n
  heads_is c zero = values_tied.heads_none c
  heads_is c (suc n) = values_tied.heads_next c n

  items_is : (c : Context) (n : ℕ) → items_below text c n ≡ (next text (readers text)).items c n
  items_is c zero = values_tied.items_none c
  items_is c (suc n) = tied.items_next c n

  fixed : readers text ≡ next text (readers text)
  fixed = λ j. record { one = λ c n. one_is c n j; many = λ c n. many_is c n j; heads = λ c n. heads_is c n j; items = λ c n. items_is c n j }

pub knot_rule : KnotRule
knot_rule text = tied text

pub fixed_rule : FixedRule
fixed_rule text = fixed text

-- ---- what is handed in for statements

pub parts_rule : PartsRule
unfolding handed
parts_rule text zero = record {
  value_is = λ c. refl;
  values_are = λ c. refl;
  target_is = λ c. refl;
  binding_is = λ c. refl;
  function_is = refl;
  class_is = λ c. refl;
  items_are = λ c. sym ((tied text).values.items_none c);
  statement_is = λ c. refl;
}
parts_rule text (suc n) = record {
  value_is = λ c. refl;
  values_are = λ c. refl;
  target_is = λ c. refl;
  binding_is = λ c. refl;
  function_is = refl;
  class_is = λ c. refl;
  items_are = λ c. sym ((tied text).items_next c n);
  statement_is = λ c. refl;
}
