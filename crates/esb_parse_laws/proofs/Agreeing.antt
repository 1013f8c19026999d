-- Readers that agree within a number of levels make readers that agree within one level more.
use Rattle.std.proofs.Common.{◌≡◌, ℕ, zero, suc, ◌≤◌, Bool, true, false, refl, arith}
use Rattle.esb_tree.specs.declared.expressions.Expression.{Expression}
use Rattle.esb_grammar.specs.declared.context.Context.{Context}
use Rattle.esb_grammar.specs.declared.form.Form.TheVariants as f
use Rattle.esb_grammar.specs.Contexts.{inside, of_arrow}
use Rattle.esb_grammar.specs.Grammar.{loosest}
use Rattle.esb_reader.specs.declared.node.Node.{Node}
use Rattle.esb_reader.specs.Places.{Text}
use Rattle.esb_reader.specs.Reader.{Reader, fail}
use Rattle.esb_reader.specs.Parts.{choice}
use Rattle.esb_expression_laws.specs.Lists.{bracketed}
use Rattle.esb_operator_laws.specs.Ladder.{binary}
use Rattle.esb_operator_laws.specs.Unary.{begins_prefix, prefixed, postfixed, unary}
use Rattle.esb_access_laws.specs.Access.{origin, accessed, left}
use Rattle.esb_assignment_laws.specs.Assignments.{chosen}
use Rattle.esb_literal_laws.specs.Bindings.{target_below}
use Rattle.esb_literal_laws.specs.Classes.{class}
use Rattle.esb_literal_laws.specs.Functions.{function}
use Rattle.esb_literal_laws.specs.Templates.{template}
use Rattle.esb_statement_laws.specs.Items as all
use Rattle.esb_statement_laws.specs.Within.{handed, items_within}
use Rattle.esb_value_laws.specs.Bodies.{concise}
use Rattle.esb_value_laws.specs.Commas.{expression}
use Rattle.esb_value_laws.specs.Covers.{covers_parameters}
use Rattle.esb_value_laws.specs.Handed.{arguments_of, template_of, brackets_of, block_of, primary_of, left_of, assignment_of, expression_of}
use Rattle.esb_value_laws.specs.Levels.{conditional, arrow_body, assignment}
use Rattle.esb_value_laws.specs.Primaries.{primary}
use Rattle.esb_value_laws.specs.Whole.{value}
use Rattle.esb_parse_laws.specs.Readers.{Readers, value_of, parts_of, next}
use Rattle.esb_parse_laws.proofs.LevelParts.{target_below_same, loose_same, block_same, object_same, function_same, class_same}

-- readers that agree at a level, and up to one
pub record SameAt (r q : Readers) (m : ℕ) : Type 0 where
  pub one_is : (c : Context) → r.one c m ≡ q.one c m
  pub many_is : (c : Context) → r.many c m ≡ q.many c m
  pub heads_is : (c : Context) → r.heads c m ≡ q.heads c m
  pub items_is : (c : Context) → r.items c m ≡ q.items c m

abbrev pub SameTo : Readers → Readers → ℕ → Type 0
SameTo r q n = (m : ℕ) → m ≤ n → SameAt r q m

pub fewer : (r q : Readers) (n : ℕ) → SameTo r q (suc n) → SameTo r q n
fewer r q n s m low = s m (omega (arith, low))

module _ (text : Text) (r q : Readers) where
  targets_same : (m : ℕ) → SameTo r q m → (c : Context) → target_below text r.one c m ≡ target_below text q.one c m
  targets_same m s c = target_below_same text r.one q.one m (λ l low. (s l low).one_is) c

  last_same : (m : ℕ) → SameTo r q m → SameAt r q m
  last_same m s = s m (omega arith)

  functions_same : (m : ℕ) (s : SameTo r q m) (is_named : Bool) → function text r.one r.items is_named m ≡ function text q.one q.items is_named m
  functions_same m s is_named = function_same text m r.one q.one (last_same m s).one_is (targets_same m s) r.items q.items (last_same m s).items_is is_named

  classes_same : (m : ℕ) (s : SameTo r q m) (is_named : Bool) (c : Context) → class text r.one r.heads r.items is_named c m ≡ class text q.one q.heads q.items is_named c m
  classes_same m s is_named c = class_same text m r.one q.one (last_same m s).one_is (targets_same m s) r.items q.items (last_same m s).items_is r.heads q.heads (last_same m s).heads_is is_named c

  -- ---- expressions

  module _ (c : Context) where
    arguments_same : (m : ℕ) → SameTo r q m → arguments_of text r.one r.many r.heads r.items c m ≡ arguments_of text q.one q.many q.heads q.items c m
    unfolding arguments_of
    arguments_same m s = λ j. bracketed text f.Arguments ((last_same m s).one_is (inside c) j)

    template_same : (m : ℕ) → SameTo r q m → template_of text r.one r.many r.heads r.items c m ≡ template_of text q.one q.many q.heads q.items c m
    unfolding template_of
    template_same m s = λ j. template text ((last_same m s).many_is (inside c) j)

    brackets_same : (m : ℕ) → SameTo r q m → brackets_of text r.one r.many r.heads r.items c m ≡ brackets_of text q.one q.many q.heads q.items c m
    unfolding brackets_of
    brackets_same m s = (last_same m s).many_is (inside c)

    arrow_block_same : (m : ℕ) → SameTo r q m → (d : Context) → block_of text r.one r.many r.heads r.items c d m ≡ block_of text q.one q.many q.heads q.items c d m
    unfolding block_of
    arrow_block_same m s d = block_same text m r.one q.one (last_same m s).one_is (targets_same m s) r.items q.items (last_same m s).items_is d

    primary_same : (m : ℕ) → SameTo r q m → primary_of text r.one r.many r.heads r.items c m ≡ primary_of text q.one q.many q.heads q.items c m
    unfolding primary_of
    primary_same m s = λ j.
        primary text c m (bracketed text f.Values ((last_same m s).one_is (inside c) j)) (bracketed text f.Array ((last_same m s).one_is (inside c) j))
        (object_same text m r.one q.one (last_same m s).one_is (targets_same m s) r.items q.items (last_same m s).items_is c j) (template_same m s j)
        (functions_same m s false j) (classes_same m s false c j)

    abbrev Left : Readers → Bool → ℕ → Reader (Node Expression)
    Left z calls n =
        left text (primary_of text z.one z.many z.heads z.items c) (arguments_of text z.one z.many z.heads z.items c) (template_of text z.one z.many z.heads z.items c)
        (brackets_of text z.one z.many z.heads z.items c) (z.one (inside c)) calls n

    left_same : (calls : Bool) (n : ℕ) → SameTo r q n → Left r calls n ≡ Left q calls n
    unfolding left
    left_same calls zero s = λ j.
        accessed text zero (primary_same zero s j) (arguments_same zero s j) (template_same zero s j) (brackets_same zero s j) ((last_same zero s).one_is (inside c) j) calls
        (origin text zero (primary_same zero s j) (arguments_same zero s j) (template_same zero s j) (brackets_same zero s j) ((last_same zero s).one_is (inside c) j) calls fail)
    left_same calls (suc n) s = λ j.
        accessed text (suc n) (primary_same (suc n) s j) (arguments_same (suc n) s j) (template_same (suc n) s j) (brackets_same (suc n) s j) ((last_same (suc n) s).one_is (inside c) j) calls
        (origin text (suc n) (primary_same (suc n) s j) (arguments_same (suc n) s j) (template_same (suc n) s j) (brackets_same (suc n) s j) ((last_same (suc n) s).one_is (inside c) j) calls (left_same false n (fewer r q n s) j))

    unary_same : (n : ℕ) → SameTo r q n → unary text c (Left r true) n ≡ unary text c (Left q true) n
    unfolding unary
    unary_same zero s = λ j. choice text (begins_prefix c) (prefixed text c zero fail) (postfixed text zero (left_same true zero s j))
    unary_same (suc n) s = λ j. choice text (begins_prefix c) (prefixed text c (suc n) (unary_same n (fewer r q n s) j)) (postfixed text (suc n) (left_same true (suc n) s j))

    pub lefts_same : (n : ℕ) → SameTo r q n → left_of text r.one r.many r.heads r.items c n ≡ left_of text q.one q.many q.heads q.items c n
    unfolding left_of
    lefts_same n s = left_same true n s

    pub values_same : (n : ℕ) → SameTo r q n → assignment_of text r.one r.many r.heads r.items c n ≡ assignment_of text q.one q.many q.heads q.items c n
    unfolding assignment_of assignment conditional arrow_body
    values_same n s = λ j.
        value text c n (chosen text n (binary text n c (unary_same n s j) loosest) ((last_same n s).one_is (inside c) j) ((last_same n s).one_is c j)) ((last_same n s).one_is c j) (arguments_same n s j)
        (λ b. concise text (arrow_block_same n s (inside (of_arrow c b)) j) ((last_same n s).one_is (of_arrow c b) j)) (covers_parameters n)

    pub expressions_same : (n : ℕ) → SameTo r q n → expression_of text r.one r.many r.heads r.items c n ≡ expression_of text q.one q.many q.heads q.items c n
    unfolding expression_of
    expressions_same n s = λ j. expression text n (values_same n s j)

  -- ---- statements

  chosen_same : (m : ℕ) → SameTo r q m → (commas : Bool) (c : Context) → value_of r m commas c ≡ value_of q m commas c
  chosen_same m s false c = (last_same m s).one_is c
  chosen_same m s true c = (last_same m s).many_is c

  parts_same : (m : ℕ) → SameTo r q m → parts_of text r m ≡ parts_of text q m
  parts_same m s = λ j. record {
    expression = λ commas c. chosen_same m s commas c j;
    target = λ c. targets_same m s c j;
    binding = λ c. loose_same text m r.one q.one (last_same m s).one_is (targets_same m s) c j;
    function = functions_same m s true j;
    class = λ c. classes_same m s true c j;
    items = λ c. fail;
    statement = λ c. fail;
  }

  handed_same : (n : ℕ) → SameTo r q n → handed text (parts_of text r) n ≡ handed text (parts_of text q) n
  unfolding handed
  handed_same zero s = λ j. record (parts_same zero s j) { items = λ c. fail; statement = λ c. fail }
  handed_same (suc n) s = λ j. record (parts_same (suc n) s j) { items = λ c. all.items text c n (handed_same n (fewer r q n s) j); statement = λ c. all.statement text c n (handed_same n (fewer r q n s) j) false }

  pub lists_same : (n : ℕ) → SameTo r q n → (c : Context) → items_within text (parts_of text r) n c ≡ items_within text (parts_of text q) n c
  lists_same n s c = λ j. all.items text c n (handed_same n s j)

  -- ---- one level more

  pub next_same : (n : ℕ) → SameTo r q n → SameTo (next text r) (next text q) (suc n)
  next_same n s zero low = record { one_is = λ c. refl; many_is = λ c. refl; heads_is = λ c. refl; items_is = λ c. refl }
  next_same n s (suc m) low =
      let to : SameTo r q m = λ l lower. s l (omega (arith, low, lower)) in
      record { one_is = λ c. values_same c m to; many_is = λ c. expressions_same c m to; heads_is = λ c. lefts_same c m to; items_is = λ c. lists_same m to c }
