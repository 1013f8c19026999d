-- Texts in which the semicolon behind their first statement may be left out, and others in which it may not.
use Rattle.std.specs.Prelude.{ℕ, false, List, [], ◌∷◌, None, codes}
use Rattle.esb_token.specs.declared.kind.Kind.{Kind}
use Rattle.esb_token.specs.declared.kind.Kind.TheVariants as k
use Rattle.esb_token.specs.declared.token.Token.{Token}
use Rattle.esb_tree.specs.declared.expressions.Expression.{Expression}
use Rattle.esb_tree.specs.declared.expressions.Expression.TheVariants as e
use Rattle.esb_tree.specs.declared.functions.ConciseBody.TheVariants as cb
use Rattle.esb_tree.specs.declared.statements.Block.{roll-Block}
use Rattle.esb_tree.specs.Trees.{written}
use Rattle.esb_tree.specs.Yields.{tokens_of_expression}
use Rattle.esb_grammar.specs.Semicolons.{Ends, EndsLoop, statement_goes_on}

abbrev pub at : Kind → ℕ → ℕ → Token
at kind start end = record { kind = kind; start = start; end = end; after_line = false }

-- the name at the front
abbrev pub name : Expression
name = e.Primary (at k.Name 0 1)

-- `a++` at the front
abbrev pub update : Expression
update = e.PostfixUpdate name (at k.PlusPlus 1 3)

-- `a=>{}` at the front
abbrev pub arrow : Expression
arrow = e.Arrow name (at k.Arrow 1 3) (cb.ConciseBlock (roll-Block (record { begin = at k.LeftBrace 3 4; body = []; ending = at k.RightBrace 4 5 })))

-- whether a semicolon may be left out behind an expression at the front of a text
abbrev pub LeftOut : List ℕ → Expression → Type 0
LeftOut text x = Ends text (statement_goes_on x) (tokens_of_expression written x) None

pub record MayBeLeftOut : Type 0 where
  -- at the end, and before a brace
  pub ending : LeftOut (codes "a") name
  pub brace : LeftOut (codes "a }") name
  -- before what doesn't go on with it on the next line
  pub line : LeftOut (codes "a\n!a") name
  -- behind `++` before a parenthesis, and behind the block of an arrow function
  pub behind_update : LeftOut (codes "a++\n(a)") update
  pub behind_block : LeftOut (codes "a=>{}\n(a)") arrow
  pub slash_behind_block : LeftOut (codes "a=>{}\n/a/") arrow
  -- behind `do` `while` before each other token
  pub loop : EndsLoop (codes ") !a") (at k.RightParenthesis 0 1 ∷ []) None

pub record MayNotBeLeftOut : Type 0 where
  -- on one line
  pub one_line : LeftOut (codes "a !a") name → ⊥
  -- before a semicolon, which is that of the statement
  pub semicolon : LeftOut (codes "a\n;") name → ⊥
  -- before what goes on with it
  pub parenthesis : LeftOut (codes "a\n(a)") name → ⊥
  pub slash : LeftOut (codes "a\n/a/") name → ⊥
  pub sum_behind_update : LeftOut (codes "a++\n+a") update → ⊥
  pub comma_behind_block : LeftOut (codes "a=>{}\n,a") arrow → ⊥
  pub loop : EndsLoop (codes ");") (at k.RightParenthesis 0 1 ∷ []) None → ⊥
