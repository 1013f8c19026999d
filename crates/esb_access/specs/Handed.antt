-- What is handed in, and members, calls and optional chains over it.
use Rattle.std.specs.Prelude.{ℕ, ◌≤◌, Bool, true, false, not, List, Result}
use mathlib.Core.Logic.{inl, inr}
use Rattle.std.specs.declared.alloc.Global.{Global}
use Rattle.std.specs.Borrow.{Bor}
use Rattle.esb_tree.specs.declared.expressions.Expression.{Expression}
use Rattle.esb_tree.specs.declared.expressions.Expression.TheVariants as e
use Rattle.esb_tree.specs.declared.expressions.Link.{Link}
use Rattle.esb_tree.specs.declared.expressions.Link.TheVariants as l
use Rattle.esb_tree.specs.declared.expressions.Substitutions.{Substitutions}
use Rattle.esb_tree.specs.declared.patterns.Bracketed.{Bracketed}
use Rattle.esb_token.specs.declared.kind.Kind.TheVariants as k
use Rattle.esb_token.specs.declared.token.Token.{Token}
use Rattle.esb_token.specs.declared.goal.Goal.TheVariants as goal
use Rattle.esb_grammar.specs.declared.context.Context.{Context}
use Rattle.esb_grammar.specs.Contexts.{inside}
use Rattle.esb_grammar.specs.Words.{is_word}
use Rattle.esb_reader.specs.declared.fault.Fault.{Fault}
use Rattle.esb_reader.specs.declared.node.Node.{Node}
use Rattle.esb_reader.specs.Places.{Text}
use Rattle.esb_reader.specs.Reader.{Reader, Gives, pure, node, repeated}
use Rattle.esb_reader.specs.Parts.{behind, token, token_in, both, made, such, above, choice, empty}
use Rattle.esb_inner.specs.Inner.{below}
use Rattle.esb_operator_laws.specs.Forks.{fork}
use Rattle.esb_operator_laws.specs.Suffixes.{suffix}
use Rattle.esb_access_laws.specs.Links as read
use Rattle.esb_access_laws.specs.Links.{is_left_parenthesis, is_whole, is_head, begins_link_in}
use Rattle.esb_access_laws.specs.Access as whole
use Rattle.esb_access_laws.specs.Access.{is_super_word, make_new, new_fits, make_import, import_fits, links_fit}

-- It may be called within at most n levels, and gives what the reader gives within as many.
pub record ReadsParts {A : Type 0} (read : Context → Text → ℕ → Reader (Node A)) (n : ℕ) (pre : Global → Bor (List ℕ) → Context → ℕ → ℕ → Type 0) (post : Global → Bor (List ℕ) → Context → ℕ → ℕ → Result (Node A × ℕ) Fault → Type 0) : Type 0 where
  pub callable : (alloc : Global) (text : Bor (List ℕ)) (c : Context) (m at : ℕ) → m ≤ n → pre alloc text c m at
  pub gives : (alloc : Global) (text : Bor (List ℕ)) (c : Context) (m at : ℕ) (r : Result (Node A × ℕ) Fault) → m ≤ n → post alloc text c m at r → Gives r (read c text.now m at)

-- ---- parts of the readers

-- `.` and a word
abbrev pub dot_word : Text → List ℕ → Reader (Node (Token × Token))
dot_word text word = both (token text k.Dot) (token_in text goal.Div (is_word text word))

-- what is not `super` alone
abbrev pub plain : Reader (Node Expression) → Reader (Node Expression)
plain p = such p (λ x. not (is_super_word x))

-- the chain of a node and its links, within n levels
abbrev pub chained : ℕ → Node Expression → Node (List Link) → Reader (Node Expression)
chained n first links = plain (suffix n e.Member (such (pure links) (links_fit first.tree)) first)

-- `new`, a callee and arguments
abbrev pub new_with : ℕ → Token → Node Expression → Node Bracketed → Reader (Node Expression)
new_with n word callee arguments = above n make_new (such (both (pure (node word 0)) (made inr 0 (both (pure callee) (made inl 0 (pure arguments))))) new_fits)

-- `new` and a callee
abbrev pub new_plain : ℕ → Token → Node Expression → Reader (Node Expression)
new_plain n word callee = above n make_new (such (both (pure (node word 0)) (made inr 0 (both (pure callee) (made inr 0 (empty tt))))) new_fits)

-- ---- the readers over what is handed in, within n levels

module _ (expression : Bool → Context → Text → ℕ → Reader (Node Expression)) (arguments : Context → Text → ℕ → Reader (Node Bracketed)) (template : Context → Text → ℕ → Reader (Node Substitutions)) (c : Context) (text : Text) (n : ℕ) where
  -- an Expression in brackets
  abbrev pub bracket : Reader (Node ((Token × Expression) × Token))
  bracket = read.bracket text (arguments c text n) (template c text n) (below (expression true (inside c)) text n)

  abbrev pub index : Reader (Node Link)
  index = read.index text (arguments c text n) (template c text n) (below (expression true (inside c)) text n)

  abbrev pub dot : Reader (Node Link)
  dot = read.dot text (arguments c text n) (template c text n) (below (expression true (inside c)) text n)

  abbrev pub optional : Reader (Node Link)
  optional = read.optional text (arguments c text n) (template c text n) (below (expression true (inside c)) text n)

  abbrev pub called : Bool → Reader (Node Link)
  called = read.called text (arguments c text n) (template c text n) (below (expression true (inside c)) text n)

  -- a template, or what stands only where there may be calls
  abbrev pub templated : Bool → Reader (Node Link)
  templated calls =
      choice text (λ t. is_whole t.kind) (made l.Tagged 0 (token text k.TemplateWhole))
      (choice text (λ t. is_head t.kind) (made l.TaggedTemplate 0 (template c text n))
      (called calls))

  abbrev pub link : Bool → Reader (Node Link)
  link = read.link text (arguments c text n) (template c text n) (below (expression true (inside c)) text n)

  abbrev pub links : Bool → Reader (Node (List Link))
  links = read.links text (arguments c text n) (template c text n) (below (expression true (inside c)) text n)

  -- at most so many links, behind those that were read
  abbrev pub links_from : Bool → ℕ → Node (List Link) → Reader (Node (List Link))
  links_from calls = repeated (λ i. begins_link_in calls (behind text i).kind) (link calls)

-- an origin and its links, within n levels
abbrev pub accessed : (Bool → Context → Text → ℕ → Reader (Node Expression)) → (Context → Text → ℕ → Reader (Node Expression)) → (Context → Text → ℕ → Reader (Node Bracketed)) → (Context → Text → ℕ → Reader (Node Substitutions)) → Context → Text → ℕ → Bool → Reader (Node Expression) → Reader (Node Expression)
accessed expression primary arguments template c text n = whole.accessed text n (primary c text n) (arguments c text n) (template c text n) (below (expression true (inside c)) text n) (below (expression false (inside c)) text n)

module _ (expression : Bool → Context → Text → ℕ → Reader (Node Expression)) (primary : Context → Text → ℕ → Reader (Node Expression)) (arguments : Context → Text → ℕ → Reader (Node Bracketed)) (template : Context → Text → ℕ → Reader (Node Substitutions)) (c : Context) (text : Text) where
  -- a LeftHandSideExpression, and without calls a MemberExpression or a NewExpression
  abbrev pub left : Bool → ℕ → Reader (Node Expression)
  left = whole.left text (primary c text) (arguments c text) (template c text) (below (expression true (inside c)) text) (below (expression false (inside c)) text)

  -- what `new` is of, one level down
  abbrev pub callee : ℕ → Reader (Node Expression)
  callee n = below (λ _ m. left false m) text n

  abbrev pub new_expression : ℕ → Reader (Node Expression)
  new_expression n = whole.new_expression text n (primary c text n) (arguments c text n) (template c text n) (below (expression true (inside c)) text n) (below (expression false (inside c)) text n) (callee n)

  -- what stands behind `new` where no dot does
  abbrev pub new_object : ℕ → Token → Reader (Node Expression)
  new_object n word = above n make_new (such (both (pure (node word 0)) (made inr 0 (both (callee n) (fork text (λ t. is_left_parenthesis t.kind) (arguments c text n) (empty tt))))) new_fits)

  -- what stands behind `import` where no dot does
  abbrev pub import_call : Bool → ℕ → Token → Reader (Node Expression)
  import_call calls n word = above n make_import (such (both (pure (node word 0)) (made inr 0 (both (both (token text k.LeftParenthesis) (below (expression false (inside c)) text n)) (token text k.RightParenthesis)))) (import_fits calls))

  abbrev pub import_expression : Bool → ℕ → Reader (Node Expression)
  import_expression calls n = whole.import_expression text n (primary c text n) (arguments c text n) (template c text n) (below (expression true (inside c)) text n) (below (expression false (inside c)) text n) calls

  abbrev pub origin : Bool → ℕ → Reader (Node Expression)
  origin calls n = whole.origin text n (primary c text n) (arguments c text n) (template c text n) (below (expression true (inside c)) text n) (below (expression false (inside c)) text n) calls (callee n)
