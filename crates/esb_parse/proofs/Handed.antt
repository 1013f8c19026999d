-- What is handed in for statements, by the levels.
use Rattle.std.proofs.Common.{◌≡◌, ℕ, zero, suc, ◌-◌, ◌<◌, Bool, true, false, List, None, sym, ap, ◌∙◌, arith}
use Rattle.esb_tree.specs.declared.expressions.Expression.{Expression}
use Rattle.esb_tree.specs.declared.statements.Statement.{Statement}
use Rattle.esb_grammar.specs.declared.context.Context.{Context}
use Rattle.esb_grammar.specs.Contexts.{of_module}
use Rattle.esb_reader.specs.declared.node.Node.{Node}
use Rattle.esb_reader.specs.Places.{Text}
use Rattle.esb_reader.specs.Reader.{Reader}
use Rattle.esb_binding_laws.specs.Loose.{loose}
use Rattle.esb_literal_laws.specs.Bindings.{target_below}
use Rattle.esb_literal_laws.specs.Classes.{class}
use Rattle.esb_literal_laws.specs.Functions.{function}
use Rattle.esb_statement_laws.specs.Items as all
use Rattle.esb_statement_laws.specs.Within.{handed}
use Rattle.esb_literals.specs.Handed.{values}
use Rattle.esb_functions.specs.Bodies.{bodies}
use Rattle.esb_functions.specs.Heads.{heads}
use Rattle.esb_parse_laws.specs.Readers.{parts}
use Rattle.esb_parse_laws.proofs.Turns.{knot_rule, parts_rule}
use Rattle.esb_parse.specs.Knot.{expression, left, items}
use Rattle.esb_parse.proofs.Whole.{target_same, binding_same, function_same, class_same}

one_less : (n : ℕ) → suc n - 1 ≡ n
one_less n = omega arith

module _ (text : Text) where
  value_at_none : (b : Bool) (c : Context) → (handed text (parts text) zero).expression b c ≡ (λ i. None)
  value_at_none false c = (parts_rule text zero).value_is c ∙ (knot_rule text).values.one_none c
  value_at_none true c = (parts_rule text zero).values_are c ∙ (knot_rule text).values.many_none c

  value_at_next : (b : Bool) (c : Context) (n : ℕ) → expression b c text n ≡ (handed text (parts text) (suc n)).expression b c
  value_at_next false c n = sym ((parts_rule text (suc n)).value_is c ∙ (knot_rule text).values.one_next c n)
  value_at_next true c n = sym ((parts_rule text (suc n)).values_are c ∙ (knot_rule text).values.many_next c n)

  items_at_none : (c : Context) → (handed text (parts text) zero).items c ≡ (λ i. None)
  items_at_none c = (parts_rule text zero).items_are c ∙ (knot_rule text).values.items_none c

  items_at_next : (c : Context) (n : ℕ) → items c text n ≡ (handed text (parts text) (suc n)).items c
  items_at_next c n = sym ((parts_rule text (suc n)).items_are c ∙ (knot_rule text).items_next c n)

  -- ---- within no levels nothing is read

  pub value_none : (b : Bool) (c : Context) (n i : ℕ) → n ≡ 0 → (handed text (parts text) n).expression b c i ≡ None
  value_none b c zero i h = ap (λ (r : Reader (Node Expression)). r i) (value_at_none b c)
  value_none b c (suc n) i h = absurd cc

  pub items_none : (c : Context) (n i : ℕ) → n ≡ 0 → (handed text (parts text) n).items c i ≡ None
  items_none c zero i h = ap (λ (r : Reader (Node (List Statement))). r i) (items_at_none c)
  items_none c (suc n) i h = absurd cc

  pub statement_none : (c : Context) (n i : ℕ) → n ≡ 0 → (handed text (parts text) n).statement c i ≡ None
  statement_none c zero i h = ap (λ (r : Reader (Node Statement)). r i) ((parts_rule text zero).statement_is c)
  statement_none c (suc n) i h = absurd cc

  -- ---- and within more what is read one level down

  pub value_next : (b : Bool) (c : Context) (n : ℕ) → 0 < n → expression b c text (n - 1) ≡ (handed text (parts text) n).expression b c
  value_next b c zero h = absurd (omega (arith, h))
  value_next b c (suc n) h = ap (λ m. expression b c text m) (one_less n) ∙ value_at_next b c n

  pub items_next : (c : Context) (n : ℕ) → 0 < n → items c text (n - 1) ≡ (handed text (parts text) n).items c
  items_next c zero h = absurd (omega (arith, h))
  items_next c (suc n) h = ap (λ m. items c text m) (one_less n) ∙ items_at_next c n

  pub statement_next : (c : Context) (n : ℕ) → 0 < n → all.statement text c (n - 1) (handed text (parts text) (n - 1)) false ≡ (handed text (parts text) n).statement c
  statement_next c zero h = absurd (omega (arith, h))
  statement_next c (suc n) h = ap (λ m. all.statement text c m (handed text (parts text) m) false) (one_less n) ∙ sym ((parts_rule text (suc n)).statement_is c)

  -- ---- what is bound, functions and classes

  pub target_is : (c : Context) (n : ℕ) → target_below text (values expression text) c n ≡ (handed text (parts text) n).target c
  target_is c n = target_same text c n ∙ sym ((parts_rule text n).target_is c)

  pub binding_is : (c : Context) (n : ℕ) → loose text (values expression text) c n ≡ (handed text (parts text) n).binding c
  binding_is c n = binding_same text c n ∙ sym ((parts_rule text n).binding_is c)

  pub function_is : (n : ℕ) → function text (values expression text) (bodies items text) true n ≡ (handed text (parts text) n).function
  function_is n = function_same text of_module n true ∙ sym ((parts_rule text n).function_is)

  pub class_is : (c : Context) (n : ℕ) → class text (values expression text) (heads left text) (bodies items text) true c n ≡ (handed text (parts text) n).class c
  class_is c n = class_same text c n true ∙ sym ((parts_rule text n).class_is c)
