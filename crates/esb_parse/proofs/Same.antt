-- The parsers read what stands in their nodes as the readers do that are tied together.
use Rattle.std.proofs.Common.{◌≡◌, ℕ, zero, suc, true, false, sym}
use Rattle.esb_grammar.specs.declared.context.Context.{Context}
use Rattle.esb_reader.specs.Places.{Text}
use Rattle.esb_inner.specs.Inner.{below}
use Rattle.esb_literals.specs.Handed.{values, expressions}
use Rattle.esb_functions.specs.Bodies.{bodies}
use Rattle.esb_functions.specs.Heads.{heads}
use Rattle.esb_parse_laws.specs.Readers.{value_below, values_below, head_below, items_below}
use Rattle.esb_parse_laws.proofs.Turns.{knot_rule}
use Rattle.esb_parse.specs.Knot.{expression, left, items}

module _ (text : Text) where
  value_at : (c : Context) (n : ℕ) → below (expression false c) text n ≡ value_below text c n
  unfolding below
  value_at c zero = sym ((knot_rule text).values.one_none c)
  value_at c (suc n) = sym ((knot_rule text).values.one_next c n)

  values_at : (c : Context) (n : ℕ) → below (expression true c) text n ≡ values_below text c n
  unfolding below
  values_at c zero = sym ((knot_rule text).values.many_none c)
  values_at c (suc n) = sym ((knot_rule text).values.many_next c n)

  head_at : (c : Context) (n : ℕ) → below (left c) text n ≡ head_below text c n
  unfolding below
  head_at c zero = sym ((knot_rule text).values.heads_none c)
  head_at c (suc n) = sym ((knot_rule text).values.heads_next c n)

  items_at : (c : Context) (n : ℕ) → below (items c) text n ≡ items_below text c n
  unfolding below
  items_at c zero = sym ((knot_rule text).values.items_none c)
  items_at c (suc n) = sym ((knot_rule text).items_next c n)

  -- ---- as functions of the context and the number of levels

  pub value_is : (λ (c : Context) (n : ℕ). below (expression false c) text n) ≡ value_below text
  value_is = λ j c n. value_at c n j

  pub values_are : (λ (c : Context) (n : ℕ). below (expression true c) text n) ≡ values_below text
  values_are = λ j c n. values_at c n j

  pub literal_values : values expression text ≡ value_below text
  unfolding values
  literal_values = value_is

  pub literal_expressions : expressions expression text ≡ values_below text
  unfolding expressions
  literal_expressions = values_are

  pub class_heads : heads left text ≡ head_below text
  unfolding heads
  class_heads = λ j c n. head_at c n j

  pub function_bodies : bodies items text ≡ items_below text
  unfolding bodies
  function_bodies = λ j c n. items_at c n j
