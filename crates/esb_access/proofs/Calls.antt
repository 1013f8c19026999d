-- A call that was read is the first of the links.
use Rattle.std.proofs.Common.{◌≡◌, ℕ, suc, ◌+◌, ◌-◌, ◌<◌, max, Bool, true, [], ◌∷◌, length, Some, refl, ap, ◌∙◌, arith}
use Rattle.esb_token.specs.declared.kind.Kind.{Kind}
use Rattle.esb_token.specs.declared.kind.Kind.TheVariants as k
use Rattle.esb_tree.specs.declared.expressions.Expression.{Expression}
use Rattle.esb_tree.specs.declared.expressions.Link.TheVariants as l
use Rattle.esb_tree.specs.declared.expressions.Substitutions.{Substitutions}
use Rattle.esb_tree.specs.declared.patterns.Bracketed.{Bracketed}
use Rattle.esb_reader.specs.declared.node.Node.{Node}
use Rattle.esb_reader.specs.Places.{Text}
use Rattle.esb_reader.specs.Reader.{Reader, node, none, repeated}
use Rattle.esb_reader.specs.Parts.{behind}
use Rattle.esb_access_laws.specs.Links as read
use Rattle.esb_access_laws.specs.Links.{is_left_parenthesis, begins_link_in}

is_parenthesis : (kind : Kind) → is_left_parenthesis kind ≡ true → kind ≡ k.LeftParenthesis
is_parenthesis k.LeftParenthesis h = refl
is_parenthesis _ h = cc

first_turn : {A : Type 0} (test : ℕ → Bool) (item : Reader (Node A)) (turns i : ℕ) (x : Node A) (m : ℕ) → test i ≡ true → item i ≡ Some (x, m) → repeated test item (suc turns) none i ≡ repeated test item turns (node (x.tree ∷ []) x.levels) m
unfolding repeated
first_turn test item turns i x m holds e =
    let same : max 0 x.levels ≡ x.levels = omega arith in
    rw (holds, e) (ap (λ n. repeated test item turns (node (x.tree ∷ []) n) m) same)

module _ (text : Text) (arguments : Reader (Node Bracketed)) (template : Reader (Node Substitutions)) (values : Reader (Node Expression)) where
  abbrev goes_on : ℕ → Bool
  goes_on i = begins_link_in true (behind text i).kind

  -- no text, no links
  pub no_links : (i : ℕ) → length text ≡ 0 → read.links text arguments template values true i ≡ Some (none, i)
  unfolding read.links repeated
  no_links i nothing = ap (λ turns. repeated goes_on (read.link text arguments template values true) turns none i) nothing

  link_call : (i : ℕ) (list : Node Bracketed) (m : ℕ) → (behind text i).kind ≡ k.LeftParenthesis → arguments i ≡ Some (list, m) → read.link text arguments template values true i ≡ Some (node (l.Call list.tree) list.levels, m)
  unfolding read.link read.called
  link_call i list m seen e =
      let same : list.levels + 0 ≡ list.levels = omega arith in
      rw (seen, e) (ap (λ n. Some (node (l.Call list.tree) n, m)) same)

  pub call_first : (i : ℕ) (list : Node Bracketed) (m : ℕ) → is_left_parenthesis (behind text i).kind ≡ true → arguments i ≡ Some (list, m) → 0 < length text
      → read.links text arguments template values true i ≡ repeated goes_on (read.link text arguments template values true) (length text - 1) (node (l.Call list.tree ∷ []) list.levels) m
  unfolding read.links
  call_first i list m seen e full =
      let kind = is_parenthesis (behind text i).kind seen in
      let more : length text ≡ suc (length text - 1) = omega arith in
      let begins : goes_on i ≡ true = rw kind refl in
      ap (λ n. repeated goes_on (read.link text arguments template values true) n none i) more
      ∙ first_turn goes_on (read.link text arguments template values true) (length text - 1) i (node (l.Call list.tree) list.levels) m begins (link_call i list m kind e)

pub begun : (text : Text) (i : ℕ) → is_left_parenthesis (behind text i).kind ≡ true → begins_link_in true (behind text i).kind ≡ true
begun text i seen = rw (is_parenthesis (behind text i).kind seen) refl
