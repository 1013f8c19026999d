-- Expressions are read exactly.
use Rattle.std.specs.Prelude.{◌≡◌, ℕ, suc, ◌<◌, ◌≤◌, Bool, true, false, not, ◌&&◌, ◌||◌, List, ◌∷◌}
use Rattle.esb_token.specs.declared.token.Token.{Token}
use Rattle.esb_tree.specs.declared.expressions.Expression.{Expression}
use Rattle.esb_tree.specs.declared.expressions.Expression.TheVariants as e
use Rattle.esb_tree.specs.declared.expressions.Operand.{Operand}
use Rattle.esb_token.specs.Tokens.{SpelledBetween}
use Rattle.esb_tree.specs.declared.patterns.Bracketed.{Bracketed}
use Rattle.esb_tree.specs.Levels.{depth_of_bracketed}
use Rattle.esb_tree.specs.Trees.{written}
use Rattle.esb_tree.specs.Yields.{tokens_of_bracketed, tokens_of_expression}
use Rattle.esb_grammar.specs.declared.form.Form.{Form}
use Rattle.esb_grammar.specs.Contexts.{inside}
use Rattle.esb_grammar.specs.Forms.{takes_value}
use Rattle.esb_reader.specs.Parts.{behind}
use Rattle.esb_expression_laws.specs.Lists.{ends_element, is_dots, bracketed}
use Rattle.esb_grammar.specs.declared.context.Context.{Context}
use Rattle.esb_grammar.specs.Grammar.{loosest, IsBinary, IsAssignment, IsBracketed}
use Rattle.esb_reader.specs.declared.node.Node.{Node}
use Rattle.esb_reader.specs.Places.{Text}
use Rattle.esb_reader.specs.Reader.{Reader}
use Rattle.esb_reader.specs.Stands.{Syntax, Rule, last_stops}
use Rattle.esb_expression_laws.specs.Leaves.{expressions, IsLeaf, leaf}
use Rattle.esb_expression_laws.specs.Operators.{is_operator, operators, operand_stops}

abbrev pub LeafRule : Type 0
LeafRule = (text : Text) (c : Context) (n top : ℕ) → Rule text (expressions (IsLeaf text c)) n top (λ _ _. true) (leaf text c)

-- What ends a chain of a level: it ends the last operand, and is no operator of the level. An operator of the level ends each operand.
pub record EndsChains (text : Text) (c : Context) (tight : ℕ) (stops whole : Expression → Token → Bool) : Type 0 where
  pub apart : (x : Expression) (t : Token) → IsBinary text tight c x → is_operator c (suc tight) t ≡ true → stops x t ≡ true
  pub alone : (x : Expression) (t : Token) → IsBinary text tight c x → whole x t ≡ true → stops x t ≡ true
  pub last : (first : Expression) (second : Operand) (rest : List Operand) (t : Token) → whole (e.Binary first (second ∷ rest)) t ≡ true → last_stops (operand_stops stops) (second ∷ rest) t ≡ true
  pub no_operator : (x : Expression) (t : Token) → whole x t ≡ true → is_operator c (suc tight) t ≡ false

-- A test of tokens alone that operators of the level pass: the tokens that pass it and are none end chains of the level.
abbrev pub EndsByTokens : Type 0
EndsByTokens =
    (text : Text) (c : Context) (tight : ℕ) (test : Token → Bool) → ((t : Token) → is_operator c (suc tight) t ≡ true → test t ≡ true)
    → EndsChains text c tight (λ _. test) (λ _ t. test t && not (is_operator c (suc tight) t))

-- Where the operands of one level tighter are read exactly, so are the chains of a level from 2 to 11.
abbrev pub OperatorsRule : Type 0
OperatorsRule =
    (text : Text) (c : Context) (n tight : ℕ) (stops whole : Expression → Token → Bool) (tighter : Reader (Node Expression)) → 1 ≤ tight → suc tight < loosest
    → Rule text (expressions (IsBinary text tight c)) n (suc n) stops tighter → EndsChains text c tight stops whole
    → Rule text (expressions (IsBinary text (suc tight) c)) n (suc n) whole (operators text n c (suc tight) tighter)

-- What is handed in: it reads the AssignmentExpressions of lists exactly, where a comma or a closing bracket ends them, and each of these
-- shows a token that is none and no `...`.
pub record ReadsValues (text : Text) (c : Context) (n : ℕ) (inner : Reader (Node Expression)) : Type 0 where
  pub rule : Rule text (expressions (IsAssignment text (inside c))) n n (λ _. ends_element) inner
  pub shows : (x : Expression) (i j : ℕ) → IsAssignment text (inside c) x → SpelledBetween text i (tokens_of_expression written x) j → (ends_element (behind text i) || is_dots (behind text i).kind) ≡ false

abbrev pub lists : Text → Form → Context → Syntax Bracketed
lists text form c = record { yields = tokens_of_bracketed written; levels_of = depth_of_bracketed; Good = IsBracketed text form c }

-- Then ParenthesizedExpressions, Arguments and ArrayLiterals are read exactly, whatever follows.
abbrev pub BracketedRule : Type 0
BracketedRule =
    (text : Text) (form : Form) (c : Context) (n : ℕ) (inner : Reader (Node Expression)) → takes_value form ≡ true → ReadsValues text c n inner
    → Rule text (lists text form c) n n (λ _ _. true) (bracketed text form inner)
