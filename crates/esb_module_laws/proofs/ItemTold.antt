-- A module item is told by its first four tokens.
use Rattle.std.proofs.Common.{◌≡◌, ◌⊎◌, inl, inr, ℕ, Bool, true, false, not, ◌&&◌, ◌||◌, cond, List, [], ◌∷◌, ◌++◌, Ok, refl, ap, sym, ◌∙◌, subst}
use Rattle.esb_token.specs.declared.kind.Kind.{Kind}
use Rattle.esb_token.specs.declared.kind.Kind.TheVariants as k
use Rattle.esb_token.specs.declared.token.Token.{Token}
use Rattle.esb_token.specs.declared.goal.Goal.TheVariants as goal
use Rattle.esb_token.specs.Goals.{is_other_than_slash, is_other_than_brace, is_division}
use Rattle.esb_token.specs.Tokens.{SpelledBetween}
use Rattle.esb_tree.specs.declared.expressions.Expression.{Expression}
use Rattle.esb_tree.specs.Trees.{written}
use Rattle.esb_tree.specs.Yields.{tokens_of_expression}
use Rattle.esb_grammar.specs.Contexts.{of_module}
use Rattle.esb_grammar.specs.Grammar.{IsAssignment}
use Rattle.esb_grammar.specs.Kinds.{is_function, is_class, is_semicolon, is_right_brace, is_end, is_name}
use Rattle.esb_grammar.specs.Semicolons.{lets_end, expression_goes_on}
use Rattle.esb_grammar.specs.Words.{is_async, begins_function, begins_declaration}
use Rattle.esb_reader.specs.declared.node.Node.{Node}
use Rattle.esb_reader.specs.Kinds.{agrees}
use Rattle.esb_reader.specs.Places.{Text}
use Rattle.esb_reader.specs.Reader.{Reader}
use Rattle.esb_reader.specs.Parts.{behind}
use Rattle.esb_statement_laws.specs.Handed.{ReadsExpressions}
use Rattle.esb_statement_laws.proofs.Ended.{three, lets, value_seen}
use Rattle.esb_statement_laws.proofs.Followed.{sees}
use Rattle.esb_statement_laws.proofs.Shown.{Shown}
use Rattle.esb_statement_laws.proofs.Small.{and_of, first_of, second_of, async_name}
use Rattle.esb_statement_laws.proofs.Told.{same_token}
use Rattle.esb_module_laws.specs.declared.item_sort.ItemSort.TheVariants as o
use Rattle.esb_module_laws.specs.Marks.{import_sort, export_sort, default_sort, item_sort_by, item_sort_of, item_sort_at, beyond}
use Rattle.esb_module_laws.proofs.Small.{no_word}

-- ---- tests

class_is : (kind : Kind) → is_class kind ≡ true → kind ≡ k.Class
class_is k.Class h = refl
class_is _ h = cc

function_is : (kind : Kind) → is_function kind ≡ true → kind ≡ k.Function
function_is k.Function h = refl
function_is _ h = cc

division_other : (kind : Kind) → is_division kind ≡ true → (is_class kind ≡ false) × (is_function kind ≡ false) × (is_name kind ≡ false)
division_other k.Slash h = (refl, refl, refl)
division_other k.SlashAssign h = (refl, refl, refl)
division_other _ h = cc

neither : (a b d : Bool) → (a || b || d) ≡ false → (a ≡ false) × (b ≡ false) × (d ≡ false)
neither false false false h = (refl, refl, refl)
neither false false true h = cc
neither false true d h = cc
neither true b d h = cc

or_false : (a b : Bool) → a ≡ false → b ≡ false → (a || b) ≡ false
or_false false b h g = g
or_false true b h g = cc

or_left : (a b : Bool) → a ≡ true → (a || b) ≡ true
or_left true b h = refl
or_left false b h = cc

or_right : (a b : Bool) → b ≡ true → (a || b) ≡ true
or_right true b h = refl
or_right false b h = h

and_false : (a b : Bool) → a ≡ false → (a && b) ≡ false
and_false false b h = refl
and_false true b h = cc

and_second : (a b : Bool) → b ≡ false → (a && b) ≡ false
and_second true b h = h
and_second false b h = refl

class_sort : (a f : Bool) → a ≡ true → cond a o.DefaultClass (cond f o.DefaultFunction o.DefaultValue) ≡ o.DefaultClass
class_sort true f h = refl
class_sort false f h = cc

function_sort : (a f : Bool) → a ≡ false → f ≡ true → cond a o.DefaultClass (cond f o.DefaultFunction o.DefaultValue) ≡ o.DefaultFunction
function_sort false true h g = refl
function_sort false false h g = cc
function_sort true f h g = cc

value_sort : (a f : Bool) → a ≡ false → f ≡ false → cond a o.DefaultClass (cond f o.DefaultFunction o.DefaultValue) ≡ o.DefaultValue
value_sort false false h g = refl
value_sort false true h g = cc
value_sort true f h g = cc

module _ (text : Text) where
  sort_two : (i : ℕ) (a b : Token) → behind text i ≡ a → behind text a.end ≡ b → item_sort_at text i ≡ item_sort_by text a.kind b (behind text b.end) (behind text (beyond text b.end))
  unfolding item_sort_of
  sort_two i a b here there =
      ap (λ (v : Token). item_sort_by text v.kind (behind text v.end) (behind text (beyond text v.end)) (behind text (beyond text (beyond text v.end)))) here
      ∙ ap (λ (u : Token). item_sort_by text a.kind u (behind text u.end) (behind text (beyond text u.end))) there

  pub import_told : (i : ℕ) (a b : Token) (ts : List Token) (j : ℕ) → SpelledBetween text i (a ∷ b ∷ ts) j → a.kind ≡ k.Import → agrees goal.Div b.kind ≡ true → item_sort_at text i ≡ import_sort b.kind
  import_told i a b ts j h e same =
      sort_two i a b (sees text i a (b ∷ ts) j h (ap (agrees goal.Div) e)) (sees text a.end b ts j h.2 same)
      ∙ ap (λ q. item_sort_by text q b (behind text b.end) (behind text (beyond text b.end))) e

  pub export_told : (i : ℕ) (a b : Token) (ts : List Token) (j : ℕ) → SpelledBetween text i (a ∷ b ∷ ts) j → a.kind ≡ k.Export → agrees goal.Div b.kind ≡ true → item_sort_at text i ≡ export_sort text b.kind (behind text b.end) (behind text (beyond text b.end))
  export_told i a b ts j h e same =
      sort_two i a b (sees text i a (b ∷ ts) j h (ap (agrees goal.Div) e)) (sees text a.end b ts j h.2 same)
      ∙ ap (λ q. item_sort_by text q b (behind text b.end) (behind text (beyond text b.end))) e

  pub star_told : (i : ℕ) (a b : Token) (ts : List Token) (j : ℕ) → SpelledBetween text i (a ∷ b ∷ ts) j → a.kind ≡ k.Export → b.kind ≡ k.Star → item_sort_at text i ≡ o.ExportAll
  star_told i a b ts j h e d = export_told i a b ts j h e (ap (agrees goal.Div) d) ∙ ap (λ q. export_sort text q (behind text b.end) (behind text (beyond text b.end))) d

  pub brace_told : (i : ℕ) (a b : Token) (ts : List Token) (j : ℕ) → SpelledBetween text i (a ∷ b ∷ ts) j → a.kind ≡ k.Export → b.kind ≡ k.LeftBrace → item_sort_at text i ≡ o.ExportNames
  brace_told i a b ts j h e d = export_told i a b ts j h e (ap (agrees goal.Div) d) ∙ ap (λ q. export_sort text q (behind text b.end) (behind text (beyond text b.end))) d

  default_told : (i : ℕ) (a b : Token) (ts : List Token) (j : ℕ) → SpelledBetween text i (a ∷ b ∷ ts) j → a.kind ≡ k.Export → b.kind ≡ k.Default → item_sort_at text i ≡ default_sort text (behind text b.end) (behind text (beyond text b.end))
  default_told i a b ts j h e d =
      export_told i a b ts j h e (ap (agrees goal.Div) d) ∙ ap (λ q. export_sort text q (behind text b.end) (behind text (beyond text b.end))) d

  -- with a third token, and a fourth
  third_told : (i : ℕ) (a b c : Token) (ts : List Token) (j : ℕ) → SpelledBetween text i (a ∷ b ∷ c ∷ ts) j → a.kind ≡ k.Export → b.kind ≡ k.Default → agrees goal.Div c.kind ≡ true → item_sort_at text i ≡ default_sort text c (behind text c.end)
  third_told i a b c ts j h e d same = default_told i a b (c ∷ ts) j h e d ∙ ap (λ (u : Token). default_sort text u (behind text u.end)) (sees text b.end c ts j h.2.2 same)

  pub class_told : (i : ℕ) (a b c : Token) (ts : List Token) (j : ℕ) → SpelledBetween text i (a ∷ b ∷ c ∷ ts) j → a.kind ≡ k.Export → b.kind ≡ k.Default → c.kind ≡ k.Class → item_sort_at text i ≡ o.DefaultClass
  class_told i a b c ts j h e d is = third_told i a b c ts j h e d (ap (agrees goal.Div) is) ∙ class_sort (is_class c.kind) _ (ap is_class is)

  pub function_told : (i : ℕ) (a b c : Token) (ts : List Token) (j : ℕ) → SpelledBetween text i (a ∷ b ∷ c ∷ ts) j → a.kind ≡ k.Export → b.kind ≡ k.Default → c.kind ≡ k.Function → item_sort_at text i ≡ o.DefaultFunction
  function_told i a b c ts j h e d is =
      third_told i a b c ts j h e d (ap (agrees goal.Div) is) ∙ function_sort (is_class c.kind) _ (ap is_class is) (or_left (is_function c.kind) _ (ap is_function is))

  pub async_told : (i : ℕ) (a b c w : Token) (ts : List Token) (j : ℕ) → SpelledBetween text i (a ∷ b ∷ c ∷ w ∷ ts) j → a.kind ≡ k.Export → b.kind ≡ k.Default → is_async text c ≡ true → w.kind ≡ k.Function → not w.after_line ≡ true → item_sort_at text i ≡ o.DefaultFunction
  async_told i a b c w ts j h e d named is line =
      let name = async_name text c named in
      third_told i a b c (w ∷ ts) j h e d (ap (agrees goal.Div) name)
      ∙ ap (λ u. default_sort text c u) (sees text c.end w ts j h.2.2.2 (ap (agrees goal.Div) is))
      ∙ function_sort (is_class c.kind) _ (ap is_class name) (or_right (is_function c.kind) _ (and_of (is_async text c) _ named (and_of _ _ (ap is_function is) line)))

  -- ---- an expression is none of these

  no_end : (kind : Kind) → kind ≡ k.Function → kind ≡ k.End → ⊥
  no_end kind h g = let bad : k.Function ≡ k.End = sym h ∙ g in cc

  semicolon_no_function : (kind : Kind) → is_semicolon kind ≡ true → is_function kind ≡ false
  semicolon_no_function k.Semicolon h = refl
  semicolon_no_function _ h = cc

  brace_no_function : (kind : Kind) → is_right_brace kind ≡ true → is_function kind ≡ false
  brace_no_function k.RightBrace h = refl
  brace_no_function _ h = cc

  end_no_function : (kind : Kind) → is_end kind ≡ true → is_function kind ≡ false
  end_no_function k.End h = refl
  end_no_function _ h = cc

  -- what ends a statement is no `function` on its line
  closes_no_function : (on : Token → Bool) (u : Token) → (is_semicolon u.kind ≡ true) ⊎ (lets_end on (Ok u) ≡ true) → (is_function u.kind && not u.after_line) ≡ false
  closes_no_function on u (inl h) = and_false _ _ (semicolon_no_function u.kind h)
  closes_no_function on u (inr h) = by_case (lets on u h)
    where
      by_case : (u.after_line ≡ true) ⊎ ((is_right_brace u.kind ≡ true) ⊎ (is_end u.kind ≡ true)) → (is_function u.kind && not u.after_line) ≡ false
      by_case (inl line) = and_second (is_function u.kind) _ (ap not line)
      by_case (inr (inl brace)) = and_false _ _ (brace_no_function u.kind brace)
      by_case (inr (inr end)) = and_false _ _ (end_no_function u.kind end)

  module _ (n : ℕ) (read : Reader (Node Expression)) (values : ReadsExpressions text (IsAssignment text of_module) n read) where
    -- an expression at a place, and what closes it
    pub record Standing (x : Expression) (i m : ℕ) : Type 0 where
      pub good : IsAssignment text of_module x
      pub spelled : SpelledBetween text i (tokens_of_expression written x) m
      pub closed : (is_semicolon (behind text m).kind ≡ true) ⊎ (lets_end (expression_goes_on x) (Ok (behind text m)) ≡ true)

    -- behind a first token `async` no `function` is seen on its line
    no_function : (x : Expression) (i m : ℕ) (t : Token) (ts : List Token) → Standing x i m → tokens_of_expression written x ≡ t ∷ ts → (is_async text t && begins_function ts) ≡ false → (is_async text t && (is_function (behind text t.end).kind && not (behind text t.end).after_line)) ≡ false
    no_function x i m t [] s is other =
        let here : t.end ≡ m = (subst (λ us. SpelledBetween text i us m) is s.spelled).2 in
        and_second (is_async text t) _ (ap (λ p. is_function (behind text p).kind && not (behind text p).after_line) here ∙ closes_no_function (expression_goes_on x) (behind text m) s.closed)
    no_function x i m t (v ∷ vs) s is other = by_test _ refl
      where
        by_test : (q : Bool) → (is_async text t && (is_function (behind text t.end).kind && not (behind text t.end).after_line)) ≡ q → q ≡ false
        by_test false h = refl
        by_test true h =
            let both = second_of (is_async text t) _ h in
            let kind = function_is _ (first_of _ _ both) in
            let rest = (subst (λ us. SpelledBetween text i us m) is s.spelled).2 in
            let same : v ≡ behind text t.end = same_token text t.end v vs m rest (no_end _ kind) (ap is_other_than_slash kind) (ap is_other_than_brace kind) in
            let bad : true ≡ false = sym (and_of (is_async text t) _ (first_of (is_async text t) _ h) (ap (λ (w : Token). is_function w.kind && not w.after_line) same ∙ both)) ∙ other in
            cc

    seen_value : (x : Expression) (i m : ℕ) (t : Token) (ts : List Token) → Standing x i m → tokens_of_expression written x ≡ t ∷ ts → Shown text i t → begins_declaration text (t ∷ ts) ≡ false → default_sort text (behind text i) (behind text (beyond text i)) ≡ o.DefaultValue
    seen_value x i m t ts s is (inl same) other =
        let none = neither (is_function t.kind) (is_class t.kind) (is_async text t && begins_function ts) other in
        ap (λ (u : Token). default_sort text u (behind text u.end)) same
        ∙ value_sort (is_class t.kind) _ none.1 (or_false (is_function t.kind) _ none.0 (no_function x i m t ts s is none.2))
    seen_value x i m t ts s is (inr slash) other =
        let none = division_other _ slash.1 in
        value_sort (is_class (behind text i).kind) _ none.0 (or_false (is_function (behind text i).kind) _ none.1 (and_false (is_async text (behind text i)) _ (no_word text _ (behind text i) none.2)))

    pub value_told : (i : ℕ) (a b : Token) (x : Expression) (us : List Token) (m j : ℕ) → SpelledBetween text i (a ∷ b ∷ us) j → a.kind ≡ k.Export → b.kind ≡ k.Default → Standing x b.end m → begins_declaration text (tokens_of_expression written x) ≡ false → item_sort_at text i ≡ o.DefaultValue
    value_told i a b x us m j h e d s other =
        let first = values.begins x s.good in
        default_told i a b us j h e d
        ∙ seen_value x b.end m first.first first.rest s first.is (value_seen text (IsAssignment text of_module) n read values x b.end m s.good s.spelled) (ap (begins_declaration text) (sym first.is) ∙ other)

    -- and where an expression is told, it does not begin so

    declared : (i : ℕ) (a b t : Token) (ts us : List Token) (j : ℕ) → SpelledBetween text i (a ∷ b ∷ ((t ∷ ts) ++ us)) j → a.kind ≡ k.Export → b.kind ≡ k.Default → (is_function t.kind ≡ true) ⊎ ((is_class t.kind ≡ true) ⊎ ((is_async text t && begins_function ts) ≡ true)) → item_sort_at text i ≡ o.DefaultValue → ⊥
    declared i a b t ts us j h e d (inl g) sort = let bad : o.DefaultFunction ≡ o.DefaultValue = sym (function_told i a b t (ts ++ us) j h e d (function_is _ g)) ∙ sort in cc
    declared i a b t ts us j h e d (inr (inl g)) sort = let bad : o.DefaultClass ≡ o.DefaultValue = sym (class_told i a b t (ts ++ us) j h e d (class_is _ g)) ∙ sort in cc
    declared i a b t [] us j h e d (inr (inr g)) sort = let bad : false ≡ true = sym (and_second (is_async text t) false refl) ∙ g in cc
    declared i a b t (v ∷ vs) us j h e d (inr (inr g)) sort =
        let both = second_of (is_async text t) (is_function v.kind && not v.after_line) g in
        let bad : o.DefaultFunction ≡ o.DefaultValue = sym (async_told i a b t v (vs ++ us) j h e d (first_of (is_async text t) _ g) (function_is _ (first_of _ _ both)) (second_of (is_function v.kind) _ both)) ∙ sort in
        cc

    pub allowed : (i : ℕ) (a b : Token) (x : Expression) (us : List Token) (j : ℕ) → SpelledBetween text i (a ∷ b ∷ (tokens_of_expression written x ++ us)) j → a.kind ≡ k.Export → b.kind ≡ k.Default → IsAssignment text of_module x → item_sort_at text i ≡ o.DefaultValue → begins_declaration text (tokens_of_expression written x) ≡ false
    allowed i a b x us j h e d good sort = by_test (begins_declaration text (tokens_of_expression written x)) refl
      where
        by_test : (q : Bool) → begins_declaration text (tokens_of_expression written x) ≡ q → q ≡ false
        by_test false g = refl
        by_test true g =
            let first = values.begins x good in
            let t = first.first in
            let ts = first.rest in
            absurd (declared i a b t ts us j (subst (λ vs. SpelledBetween text i (a ∷ b ∷ (vs ++ us)) j) first.is h) e d
            (three (is_function t.kind) (is_class t.kind) (is_async text t && begins_function ts) (ap (begins_declaration text) (sym first.is) ∙ g)) sort)
