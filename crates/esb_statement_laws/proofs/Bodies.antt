-- Statements with statements in them, without `if`, are read exactly.
use Rattle.std.proofs.Common.{◌≡◌, ℕ, suc, ◌+◌, ◌≤◌, max, Bool, true, false, not, ◌&&◌, List, [], ◌∷◌, ◌++◌, length, map, Option, refl, ap, sym, ◌∙◌, subst, append_assoc, arith}
use Rattle.std.specs.List.{AllByRecursion}
use Rattle.esb_token.specs.declared.kind.Kind.TheVariants as k
use Rattle.esb_token.specs.declared.token.Token.{Token}
use Rattle.esb_token.specs.declared.goal.Goal.TheVariants as goal
use Rattle.esb_token.specs.Tokens.{SpelledBetween}
use Rattle.esb_tree.specs.declared.expressions.Expression.{Expression}
use Rattle.esb_tree.specs.declared.statements.Block.{Block}
use Rattle.esb_tree.specs.declared.statements.Statement.{Statement}
use Rattle.esb_tree.specs.declared.statements.Statement.TheVariants as s
use Rattle.esb_tree.specs.Levels.{most, depth_of_expression, depth_of_block, depth_of_statement}
use Rattle.esb_tree.specs.Trees.{written}
use Rattle.esb_tree.specs.Yields.{Tokens, tokens_of_expression, tokens_of_block, tokens_of_statement}
use Rattle.esb_tree.proofs.TokenLines.{tokens_Block, tokens_BlockStatement, tokens_Empty, tokens_While, tokens_DoWhile, tokens_Labelled}
use Rattle.esb_tree.proofs.LevelLines.{levels_Block, levels_BlockStatement, levels_Empty, levels_While, levels_DoWhile, levels_Labelled}
use Rattle.esb_grammar.specs.declared.context.Context.{Context}
use Rattle.esb_grammar.specs.Contexts.{inside}
use Rattle.esb_grammar.specs.Edges.{takes_else}
use Rattle.esb_grammar.specs.Grammar.{IsExpression, IsStatement, IsItem, AreItems, no_items, more_items, IsBlock, braces}
use Rattle.esb_grammar.specs.Kinds.{is_reference}
use Rattle.esb_grammar.specs.Semicolons.{end_from}
use Rattle.esb_grammar.proofs.EdgeLines.{takes_While, takes_Labelled}
use Rattle.esb_reader.specs.declared.node.Node.{Node}
use Rattle.esb_reader.specs.Places.{Text}
use Rattle.esb_reader.specs.Reader.{Reader}
use Rattle.esb_reader.specs.Parts.{both, token, token_in}
use Rattle.esb_reader.specs.Stands.{Syntax, Rule, Made, pairs, row, tokens, tokens_in}
use Rattle.esb_reading_laws.proofs.Composed.{token_rule, token_in_rule, both_rule, plain_rule, above_rule, same_rule}
use Rattle.esb_reading_laws.proofs.Steps.{spelled_split}
use Rattle.esb_statement_laws.specs.Sequels.{Keeps}
use Rattle.esb_statement_laws.specs.Endings.{closed, closings}
use Rattle.esb_statement_laws.specs.Marks.{ends_expression, ends_items, is_else, never_follows, nearest, stops_before, statement_stops}
use Rattle.esb_statement_laws.specs.Handed.{Handed, expressions, statements, ReadsExpressions, ReadsStatements}
use Rattle.esb_statement_laws.specs.Statements as read
use Rattle.esb_statement_laws.specs.Statements.{make_block, make_while, make_do, make_labelled, behind_loop}
use Rattle.esb_statement_laws.proofs.Followed.{leading, between, closing}
use Rattle.esb_statement_laws.proofs.EndingsRead.{ends_at, closed_rule, is_other_is}
use Rattle.esb_statement_laws.proofs.Kept.{keeps_both, keeps_above, keeps_same}
use Rattle.esb_statement_laws.proofs.Small.{label_agrees}

-- ---- lists of statements

pub all_items : (text : Text) (c : Context) (xs : List Statement) → AreItems text c xs → AllByRecursion (IsItem text c) xs
all_items text c [] h = tt
all_items text c (x ∷ xs) (more_items first rest) = (first, all_items text c xs rest)

pub are_items : (text : Text) (c : Context) (xs : List Statement) → AllByRecursion (IsItem text c) xs → AreItems text c xs
are_items text c [] h = no_items
are_items text c (x ∷ xs) h = more_items h.0 (are_items text c xs h.1)

-- a token that may follow a statement and is no `else` ends each
pub other_stops : (takes : Bool) (t : Token) → never_follows t.kind ≡ false → is_else t.kind ≡ false → stops_before takes t ≡ true
other_stops takes t h g = by_cases takes (never_follows t.kind) (is_else t.kind) h g
  where
    by_cases : (a b d : Bool) → b ≡ false → d ≡ false → (not b && not (a && d)) ≡ true
    by_cases a true d h g = cc
    by_cases a false true h g = cc
    by_cases true false false h g = refl
    by_cases false false false h g = refl

pub kept_of : (takes : Bool) (t : Token) → stops_before takes t ≡ true → nearest takes t ≡ true
kept_of takes t h = by_cases (not (never_follows t.kind)) (nearest takes t) h
  where
    by_cases : (a b : Bool) → (a && b) ≡ true → b ≡ true
    by_cases true b h = h
    by_cases false b h = cc

module _ (text : Text) (c : Context) (n : ℕ) (r : Handed) (values : ReadsExpressions text (IsExpression text (inside c)) n (r.expression true (inside c)))
    (bodies : ReadsStatements text (IsStatement text c) n (r.statement c)) (lists : Rule text (row (statements (IsItem text c))) n n (λ _ t. ends_items t.kind) (r.items c)) where
  abbrev pub Values : Syntax Expression
  Values = expressions (IsExpression text (inside c))

  abbrev value : Reader (Node Expression)
  value = r.expression true (inside c)

  abbrev pub Inner : Syntax Statement
  Inner = statements (IsStatement text c)

  abbrev pub Items : Syntax (List Statement)
  Items = row (statements (IsItem text c))

  -- ---- blocks

  abbrev BlockParts : Syntax (Token × (List Statement × Token))
  BlockParts = pairs (tokens k.LeftBrace) (pairs Items (tokens k.RightBrace))

  abbrev pub blocks : (Block → Type 0) → Syntax Block
  blocks Good = record { yields = tokens_of_block written; levels_of = depth_of_block; Good = Good }

  block_of : (x : Block) → Made BlockParts make_block x → IsBlock text c x
  block_of x h = subst (IsBlock text c) (sym h.1) (braces h.0.0 h.0.1.0 h.0.1.1 h.2.0 (are_items text c h.0.1.0 h.2.1.0) h.2.1.1)

  parts_of : (x : Block) → IsBlock text c x → Made BlockParts make_block x
  parts_of x (braces begin body ending h1 h2 h3) = ((begin, (body, ending)), refl, (h1, (all_items text c body h2, h3)))

  block_levels : (m : ℕ) → m ≡ max 0 (max m 0)
  block_levels m = omega arith

  pub block_rule : Rule text (blocks (IsBlock text c)) n n (λ _ _. true) (read.block text c n r)
  unfolding read.block
  block_rule =
      same_rule text (blocks (Made BlockParts make_block)) (blocks (IsBlock text c)) n n (λ _ _. true) (λ _ _. true) (read.block text c n r)
      (plain_rule text BlockParts (tokens_of_block written) depth_of_block n n (λ _ _. true) (λ _ _. true) make_block (both (token text k.LeftBrace) (both (r.items c) (token text k.RightBrace)))
      (leading text (pairs Items (tokens k.RightBrace)) n n k.LeftBrace (λ _ _. true) (both (r.items c) (token text k.RightBrace)) refl
      (closing text Items n n k.RightBrace (λ _ t. ends_items t.kind) (r.items c) refl lists (λ xs t good e. ap ends_items e)))
      (λ p. tokens_Block written p.0 p.1.0 p.1.1) (λ p. levels_Block p.0 p.1.0 p.1.1 ∙ block_levels (most (map depth_of_statement p.1.0))) (λ p t h. refl))
      refl refl block_of parts_of (λ x t good h. refl)

  pub block_statement_rule : Rule text (statements (Made (blocks (IsBlock text c)) s.BlockStatement)) n (suc n) (λ _ _. true) (read.block_statement text c n r)
  unfolding read.block_statement
  block_statement_rule =
      above_rule text (blocks (IsBlock text c)) (tokens_of_statement written) depth_of_statement n n (λ _ _. true) (λ _ _. true) s.BlockStatement (read.block text c n r) block_rule
      (omega arith) (λ b. tokens_BlockStatement written b) levels_BlockStatement (λ a t h. refl)

  pub empty_rule : Rule text (statements (Made (tokens k.Semicolon) s.Empty)) n (suc n) (λ _ _. true) (read.empty_statement text c n r)
  unfolding read.empty_statement
  empty_rule =
      above_rule text (tokens k.Semicolon) (tokens_of_statement written) depth_of_statement n n (λ _ _. true) (λ _ _. true) s.Empty (token text k.Semicolon) (token_rule text n n k.Semicolon refl)
      (omega arith) (λ t. tokens_Empty written t) levels_Empty (λ a t h. refl)

  -- ---- an expression in parentheses, and what stands behind it

  abbrev pub Headed : {A : Type 0} → Syntax A → Syntax (Token × (Expression × (Token × A)))
  Headed T = pairs (tokens k.LeftParenthesis) (pairs Values (pairs (tokens k.RightParenthesis) T))

  pub headed_rule : {A : Type 0} (T : Syntax A) (ends : A → Token → Bool) (p : Reader (Node A)) → Rule text T n n ends p → Rule text (Headed T) n n (λ q. ends q.1.1.1) (read.headed text c n r p)
  headed_rule T ends p rule =
      leading text (pairs Values (pairs (tokens k.RightParenthesis) T)) n n k.LeftParenthesis (λ q. ends q.1.1) (both value (both (token text k.RightParenthesis) p)) refl
      (between text Values T n n k.RightParenthesis values.stops ends value p refl values.rule rule (λ x t good e. values.ends x t good (ap ends_expression e)))

  -- ---- `while`

  abbrev pub WhileParts : Syntax (Token × (Token × (Expression × (Token × Statement))))
  WhileParts = pairs (tokens k.While) (Headed Inner)

  while_levels : (x b : ℕ) → max x b + 1 ≡ max 0 (max 0 (max x (max 0 b))) + 1
  while_levels x b = omega arith

  while_stops : (p : Token × (Token × (Expression × (Token × Statement)))) (t : Token) → statement_stops (make_while p) t ≡ true → statement_stops p.1.1.1.1 t ≡ true
  while_stops p t h = ap (λ b. stops_before b t) (sym (takes_While p.0 p.1.0 p.1.1.0 p.1.1.1.0 p.1.1.1.1)) ∙ h

  pub while_rule : Rule text (statements (Made WhileParts make_while)) n (suc n) statement_stops (read.while_statement text c n r)
  unfolding read.while_statement
  while_rule =
      above_rule text WhileParts (tokens_of_statement written) depth_of_statement n n (λ p. statement_stops p.1.1.1.1) statement_stops make_while (both (token text k.While) (read.headed text c n r (r.statement c)))
      (leading text (Headed Inner) n n k.While (λ q. statement_stops q.1.1.1) (read.headed text c n r (r.statement c)) refl (headed_rule Inner statement_stops (r.statement c) bodies.rule))
      (omega arith) (λ p. tokens_While written p.0 p.1.0 p.1.1.0 p.1.1.1.0 p.1.1.1.1) (λ p. levels_While p.0 p.1.0 p.1.1.0 p.1.1.1.0 p.1.1.1.1 ∙ while_levels (depth_of_expression p.1.1.0) (depth_of_statement p.1.1.1.1)) while_stops

  pub while_keeps : Keeps text (λ x. nearest (takes_else x)) (read.while_statement text c n r)
  unfolding read.while_statement
  while_keeps =
      keeps_above text (λ x. nearest (takes_else x)) n make_while (both (token text k.While) (read.headed text c n r (r.statement c)))
      (keeps_same text (λ p. nearest (takes_else p.1.1.1.1)) (λ p. nearest (takes_else (make_while p))) (both (token text k.While) (read.headed text c n r (r.statement c)))
      (λ p t h. ap (λ b. nearest b t) (takes_While p.0 p.1.0 p.1.1.0 p.1.1.1.0 p.1.1.1.1) ∙ h)
      (keeps_both text (λ q. nearest (takes_else q.1.1.1)) (token text k.While) (read.headed text c n r (r.statement c))
      (keeps_both text (λ q. nearest (takes_else q.1.1)) (token text k.LeftParenthesis) (both value (both (token text k.RightParenthesis) (r.statement c)))
      (keeps_both text (λ q. nearest (takes_else q.1)) value (both (token text k.RightParenthesis) (r.statement c))
      (keeps_both text (λ x. nearest (takes_else x)) (token text k.RightParenthesis) (r.statement c) bodies.keeps)))))

  -- ---- `do` `while`

  abbrev Tests : Syntax (Token × (Expression × Token))
  Tests = pairs (tokens k.LeftParenthesis) (pairs Values (tokens k.RightParenthesis))

  abbrev Loops : Syntax (Token × (Statement × (Token × (Token × (Expression × Token)))))
  Loops = pairs (tokens k.Do) (pairs Inner (pairs (tokens k.While) Tests))

  abbrev loop_tokens : Token × (Statement × (Token × (Token × (Expression × Token)))) → Tokens
  loop_tokens p = p.1.1.1.1.1 ∷ []

  abbrev pub DoParts : Syntax ((Token × (Statement × (Token × (Token × (Expression × Token))))) × Option Token)
  DoParts = closings text behind_loop loop_tokens Loops

  do_levels : (b x : ℕ) → max b x + 1 ≡ max (max 0 (max b (max 0 (max 0 (max x 0))))) 0 + 1
  do_levels b x = omega arith

  loop_ends : (p : Token × (Statement × (Token × (Token × (Expression × Token))))) (i m : ℕ) → SpelledBetween text i (Loops.yields p) m → (end_from 0 (loop_tokens p) ≡ m) × (m ≤ length text)
  loop_ends p i m h =
      let body = spelled_split text p.0.end (tokens_of_statement written p.1.0) _ m h.2 in
      let test = spelled_split text p.1.1.1.0.end (tokens_of_expression written p.1.1.1.1.0) (p.1.1.1.1.1 ∷ []) m body.2.2.2 in
      ends_at text test.0 p.1.1.1.1.1 [] m test.2

  do_yields : (p : Token × (Statement × (Token × (Token × (Expression × Token))))) (semicolon : Option Token) → tokens_of_statement written (make_do (p, semicolon)) ≡ Loops.yields p ++ written semicolon
  do_yields p semicolon =
      let body = tokens_of_statement written p.1.0 in
      let test = tokens_of_expression written p.1.1.1.1.0 in
      let ending : Tokens = p.1.1.1.1.1 ∷ [] in
      tokens_DoWhile written p.0 p.1.0 p.1.1.0 p.1.1.1.0 p.1.1.1.1.0 p.1.1.1.1.1 semicolon
      ∙ ap (λ ts. p.0 ∷ ts)
      (ap (λ ts. body ++ (p.1.1.0 ∷ (p.1.1.1.0 ∷ ts))) (sym (append_assoc test ending (written semicolon)))
      ∙ sym (append_assoc body (p.1.1.0 ∷ (p.1.1.1.0 ∷ (test ++ ending))) (written semicolon)))

  pub do_rule : Rule text (statements (Made DoParts make_do)) n (suc n) (λ _ _. true) (read.do_statement text c n r)
  unfolding read.do_statement
  do_rule =
      above_rule text DoParts (tokens_of_statement written) depth_of_statement n n (λ _ _. true) (λ _ _. true) make_do (closed text behind_loop loop)
      (closed_rule text Loops n n (λ _ _. true) behind_loop loop_tokens loop
      (leading text (pairs Inner (pairs (tokens k.While) Tests)) n n k.Do (λ _ _. true) (both (r.statement c) (both (token text k.While) tests)) refl
      (between text Inner Tests n n k.While statement_stops (λ _ _. true) (r.statement c) tests refl bodies.rule
      (leading text (pairs Values (tokens k.RightParenthesis)) n n k.LeftParenthesis (λ _ _. true) (both value (token text k.RightParenthesis)) refl
      (closing text Values n n k.RightParenthesis values.stops value refl values.rule (λ x t good e. values.ends x t good (ap ends_expression e))))
      (λ x t good e. other_stops (takes_else x) t (ap never_follows e) (ap is_else e))))
      (λ p. is_other_is) (λ p i m good h. loop_ends p i m h) (λ p t good h. refl))
      (omega arith) (λ p. do_yields p.0 p.1) (λ p. levels_DoWhile p.0.0 p.0.1.0 p.0.1.1.0 p.0.1.1.1.0 p.0.1.1.1.1.0 p.0.1.1.1.1.1 p.1 ∙ do_levels (depth_of_statement p.0.1.0) (depth_of_expression p.0.1.1.1.1.0)) (λ a t h. refl)
    where
      tests : Reader (Node (Token × (Expression × Token)))
      tests = both (token text k.LeftParenthesis) (both value (token text k.RightParenthesis))

      loop : Reader (Node (Token × (Statement × (Token × (Token × (Expression × Token))))))
      loop = both (token text k.Do) (both (r.statement c) (both (token text k.While) tests))

  -- ---- LabelledStatement

  abbrev pub LabelledParts : Syntax (Token × (Token × Statement))
  LabelledParts = pairs (tokens_in (λ t. is_reference c t.kind)) (pairs (tokens k.Colon) Inner)

  labelled_levels : (b : ℕ) → b + 1 ≡ max 0 (max 0 b) + 1
  labelled_levels b = omega arith

  pub labelled_rule : Rule text (statements (Made LabelledParts make_labelled)) n (suc n) statement_stops (read.labelled_statement text c n r)
  unfolding read.labelled_statement
  labelled_rule =
      above_rule text LabelledParts (tokens_of_statement written) depth_of_statement n n (λ p. statement_stops p.1.1) statement_stops make_labelled (both (token_in text goal.Div (λ t. is_reference c t.kind)) (both (token text k.Colon) (r.statement c)))
      (both_rule text (tokens_in (λ t. is_reference c t.kind)) (pairs (tokens k.Colon) Inner) n n (λ _ _. true) (λ p. statement_stops p.1) (λ p. statement_stops p.1.1) (token_in text goal.Div (λ t. is_reference c t.kind)) (both (token text k.Colon) (r.statement c))
      (token_in_rule text n n goal.Div (λ t. is_reference c t.kind) (λ t h. label_agrees c t.kind h))
      (leading text Inner n n k.Colon statement_stops (r.statement c) refl bodies.rule) (λ a b t h. h) (λ a b m j ga gb h stop. refl))
      (omega arith) (λ p. tokens_Labelled written p.0 p.1.0 p.1.1) (λ p. levels_Labelled p.0 p.1.0 p.1.1 ∙ labelled_levels (depth_of_statement p.1.1))
      (λ p t h. ap (λ b. stops_before b t) (sym (takes_Labelled p.0 p.1.0 p.1.1)) ∙ h)

  pub labelled_keeps : Keeps text (λ x. nearest (takes_else x)) (read.labelled_statement text c n r)
  unfolding read.labelled_statement
  labelled_keeps =
      keeps_above text (λ x. nearest (takes_else x)) n make_labelled (both (token_in text goal.Div (λ t. is_reference c t.kind)) (both (token text k.Colon) (r.statement c)))
      (keeps_same text (λ p. nearest (takes_else p.1.1)) (λ p. nearest (takes_else (make_labelled p))) (both (token_in text goal.Div (λ t. is_reference c t.kind)) (both (token text k.Colon) (r.statement c)))
      (λ p t h. ap (λ b. nearest b t) (takes_Labelled p.0 p.1.0 p.1.1) ∙ h)
      (keeps_both text (λ q. nearest (takes_else q.1)) (token_in text goal.Div (λ t. is_reference c t.kind)) (both (token text k.Colon) (r.statement c))
      (keeps_both text (λ x. nearest (takes_else x)) (token text k.Colon) (r.statement c) bodies.keeps)))
