-- `switch` is read exactly.
use Rattle.std.proofs.Common.{◌≡◌, ◌⊎◌, inl, inr, ℕ, suc, ◌+◌, ◌<◌, ◌≤◌, max, Bool, true, false, not, ◌&&◌, cond, List, [], ◌∷◌, length, map, refl, ap, sym, ◌∙◌, subst, arith}
use Rattle.std.specs.List.{AllByRecursion}
use Rattle.esb_token.specs.declared.kind.Kind.{Kind}
use Rattle.esb_token.specs.declared.kind.Kind.TheVariants as k
use Rattle.esb_token.specs.declared.token.Token.{Token}
use Rattle.esb_token.specs.declared.goal.Goal.TheVariants as goal
use Rattle.esb_token.specs.Tokens.{SpelledBetween}
use Rattle.esb_tree.specs.declared.classes.ClassElement.TheOpen.{CaseClause-F}
use Rattle.esb_tree.specs.declared.expressions.Expression.{Expression}
use Rattle.esb_tree.specs.declared.statements.CaseClause.{CaseClause, out-CaseClause, out-roll-CaseClause}
use Rattle.esb_tree.specs.declared.statements.CaseClause.TheVariants as cc
use Rattle.esb_tree.specs.declared.statements.Statement.{Statement}
use Rattle.esb_tree.specs.Levels.{most, depth_of_expression, depth_of_case_clause, depth_of_statement}
use Rattle.esb_tree.specs.Trees.{written}
use Rattle.esb_tree.specs.Yields.{tokens_of_case_clause, tokens_of_statement}
use Rattle.esb_tree.proofs.TokenLines.{tokens_Case, tokens_Default, tokens_Switch}
use Rattle.esb_tree.proofs.LevelLines.{levels_Case, levels_Default, levels_Switch}
use Rattle.esb_grammar.specs.declared.context.Context.{Context}
use Rattle.esb_grammar.specs.Contexts.{inside}
use Rattle.esb_grammar.specs.Grammar.{IsExpression, IsStatement, IsItem, AreCaseClauses, no_clauses, case_clause, default_clause}
use Rattle.esb_reader.specs.declared.node.Node.{Node}
use Rattle.esb_reader.specs.Kinds.{agrees}
use Rattle.esb_reader.specs.Places.{Text}
use Rattle.esb_reader.specs.Reader.{Reader}
use Rattle.esb_reader.specs.Parts.{behind, both, token, many}
use Rattle.esb_reader.specs.Stands.{Syntax, Rule, Made, pairs, row, tokens, which, last_stops, list_stops}
use Rattle.esb_reading_laws.specs.Laws.{Repeats}
use Rattle.esb_reading_laws.proofs.Composed.{above_rule, such_rule, choice_rule}
use Rattle.esb_reading_laws.proofs.Rows.{many_rule}
use Rattle.esb_statement_laws.specs.Marks.{is_case, is_clause, ends_expression, ends_items}
use Rattle.esb_statement_laws.specs.Handed.{Handed, statements, ReadsExpressions, ReadsStatements}
use Rattle.esb_statement_laws.specs.Compounds as read
use Rattle.esb_statement_laws.specs.Compounds.{make_case, make_default, make_switch, default_layer, is_default, no_default, one_default}
use Rattle.esb_statement_laws.specs.Statements as plain
use Rattle.esb_statement_laws.proofs.Followed.{leading, between, closing, sees, lower_rule}
use Rattle.esb_statement_laws.proofs.EndingsRead.{spelled_moves}
use Rattle.esb_statement_laws.proofs.Bodies.{Values, Items, Headed, headed_rule, all_items, are_items}
use Rattle.esb_statement_laws.proofs.Small.{and_of}

clause_ends_items : (kind : Kind) → is_clause kind ≡ true → ends_items kind ≡ true
clause_ends_items k.Case h = refl
clause_ends_items k.Default h = refl
clause_ends_items _ h = cc

case_no_default : (x : CaseClause) (word : Token) (v : Expression) (colon : Token) (body : List Statement) → x ≡ cc.Case word v colon body → is_default x ≡ false
unfolding is_default
case_no_default x word v colon body e = ap (λ y. default_layer (out-CaseClause y)) e ∙ ap default_layer (ap out-CaseClause (sym (cc.rolls-Case word v colon body)) ∙ out-roll-CaseClause (CaseClause-F.Case word v colon body))

default_is : (x : CaseClause) (word colon : Token) (body : List Statement) → x ≡ cc.Default word colon body → is_default x ≡ true
unfolding is_default
default_is x word colon body e = ap (λ y. default_layer (out-CaseClause y)) e ∙ ap default_layer (ap out-CaseClause (sym (cc.rolls-Default word colon body)) ∙ out-roll-CaseClause (CaseClause-F.Default word colon body))

module _ (text : Text) (c : Context) (n : ℕ) (r : Handed) (values : ReadsExpressions text (IsExpression text (inside c)) n (r.expression true (inside c)))
    (bodies : ReadsStatements text (IsStatement text c) n (r.statement c)) (lists : Rule text (row (statements (IsItem text c))) n n (λ _ t. ends_items t.kind) (r.items c)) where
  abbrev V : Syntax Expression
  V = Values text c n r values bodies lists

  abbrev I : Syntax (List Statement)
  I = Items text c n r values bodies lists

  abbrev value : Reader (Node Expression)
  value = r.expression true (inside c)

  abbrev cases : (CaseClause → Type 0) → Syntax CaseClause
  cases Good = record { yields = tokens_of_case_clause written; levels_of = depth_of_case_clause; Good = Good }

  abbrev CaseParts : Syntax (Token × (Expression × (Token × List Statement)))
  CaseParts = pairs (tokens k.Case) (pairs V (pairs (tokens k.Colon) I))

  abbrev DefaultParts : Syntax (Token × (Token × List Statement))
  DefaultParts = pairs (tokens k.Default) (pairs (tokens k.Colon) I)

  abbrev IsCase : CaseClause → Type 0
  IsCase = Made CaseParts make_case

  abbrev IsDefault : CaseClause → Type 0
  IsDefault = Made DefaultParts make_default

  case_levels : (x b : ℕ) → max x b + 1 ≡ max 0 (max x (max 0 b)) + 1
  case_levels x b = omega arith

  default_levels : (b : ℕ) → b + 1 ≡ max 0 (max 0 b) + 1
  default_levels b = omega arith

  smaller : (m : ℕ) → m < n → m < suc n
  smaller m h = omega arith

  case_rule : Rule text (cases IsCase) n n (λ _ t. ends_items t.kind) (read.case_clause text c n r)
  unfolding read.case_clause
  case_rule =
      lower_rule text (cases IsCase) n (suc n) n (λ _ t. ends_items t.kind) (read.case_clause text c n r)
      (above_rule text CaseParts (tokens_of_case_clause written) depth_of_case_clause n n (λ _ t. ends_items t.kind) (λ _ t. ends_items t.kind) make_case (both (token text k.Case) (both value (both (token text k.Colon) (r.items c))))
      (leading text (pairs V (pairs (tokens k.Colon) I)) n n k.Case (λ _ t. ends_items t.kind) (both value (both (token text k.Colon) (r.items c))) refl
      (between text V I n n k.Colon values.stops (λ _ t. ends_items t.kind) value (r.items c) refl values.rule lists (λ x t good e. values.ends x t good (ap ends_expression e))))
      (omega arith) (λ p. tokens_Case written p.0 p.1.0 p.1.1.0 p.1.1.1) (λ p. levels_Case p.0 p.1.0 p.1.1.0 p.1.1.1 ∙ case_levels (depth_of_expression p.1.0) (most (map depth_of_statement p.1.1.1))) (λ p t h. h)) smaller

  default_rule : Rule text (cases IsDefault) n n (λ _ t. ends_items t.kind) (read.default_clause text c n r)
  unfolding read.default_clause
  default_rule =
      lower_rule text (cases IsDefault) n (suc n) n (λ _ t. ends_items t.kind) (read.default_clause text c n r)
      (above_rule text DefaultParts (tokens_of_case_clause written) depth_of_case_clause n n (λ _ t. ends_items t.kind) (λ _ t. ends_items t.kind) make_default (both (token text k.Default) (both (token text k.Colon) (r.items c)))
      (leading text (pairs (tokens k.Colon) I) n n k.Default (λ _ t. ends_items t.kind) (both (token text k.Colon) (r.items c)) refl
      (leading text I n n k.Colon (λ _ t. ends_items t.kind) (r.items c) refl lists))
      (omega arith) (λ p. tokens_Default written p.0 p.1.0 p.1.1) (λ p. levels_Default p.0 p.1.0 p.1.1 ∙ default_levels (most (map depth_of_statement p.1.1))) (λ p t h. h)) smaller

  spelled_case : (x : CaseClause) (i j : ℕ) (good : IsCase x) → SpelledBetween text i (tokens_of_case_clause written x) j → SpelledBetween text i (CaseParts.yields good.0) j
  spelled_case x i j good h = subst (λ ts. SpelledBetween text i ts j) (ap (tokens_of_case_clause written) good.1 ∙ tokens_Case written good.0.0 good.0.1.0 good.0.1.1.0 good.0.1.1.1) h

  spelled_default : (x : CaseClause) (i j : ℕ) (good : IsDefault x) → SpelledBetween text i (tokens_of_case_clause written x) j → SpelledBetween text i (DefaultParts.yields good.0) j
  spelled_default x i j good h = subst (λ ts. SpelledBetween text i ts j) (ap (tokens_of_case_clause written) good.1 ∙ tokens_Default written good.0.0 good.0.1.0 good.0.1.1) h

  case_seen : (x : CaseClause) (i j : ℕ) → IsCase x → SpelledBetween text i (tokens_of_case_clause written x) j → (behind text i).kind ≡ k.Case
  case_seen x i j good h = ap (λ (u : Token). u.kind) (sees text i good.0.0 ((pairs V (pairs (tokens k.Colon) I)).yields good.0.1) j (spelled_case x i j good h) (ap (agrees goal.Div) good.2.0)) ∙ good.2.0

  default_seen : (x : CaseClause) (i j : ℕ) → IsDefault x → SpelledBetween text i (tokens_of_case_clause written x) j → (behind text i).kind ≡ k.Default
  default_seen x i j good h = ap (λ (u : Token). u.kind) (sees text i good.0.0 ((pairs (tokens k.Colon) I).yields good.0.1) j (spelled_default x i j good h) (ap (agrees goal.Div) good.2.0)) ∙ good.2.0

  abbrev IsClause : CaseClause → Type 0
  IsClause x = IsCase x ⊎ IsDefault x

  clause_rule : Rule text (cases IsClause) n n (λ _ t. ends_items t.kind) (read.clause text c n r)
  unfolding read.clause
  clause_rule =
      choice_rule text (cases IsClause) IsCase IsDefault n n (λ _ t. ends_items t.kind) (λ t. is_case t.kind) (read.case_clause text c n r) (read.default_clause text c n r) case_rule default_rule
      (λ x i j good h. ap is_case (case_seen x i j good h)) (λ x i j good h stop. ap is_case (default_seen x i j good h))

  clause_seen : (x : CaseClause) (i j : ℕ) → IsClause x → SpelledBetween text i (tokens_of_case_clause written x) j → is_clause (behind text i).kind ≡ true
  clause_seen x i j (inl good) h = ap is_clause (case_seen x i j good h)
  clause_seen x i j (inr good) h = ap is_clause (default_seen x i j good h)

  clause_moves : (x : CaseClause) (i j : ℕ) → IsClause x → SpelledBetween text i (tokens_of_case_clause written x) j → (i < j) × (j ≤ length text)
  clause_moves x i j (inl good) h = spelled_moves text i good.0.0 ((pairs V (pairs (tokens k.Colon) I)).yields good.0.1) j (spelled_case x i j good h)
  clause_moves x i j (inr good) h = spelled_moves text i good.0.0 ((pairs (tokens k.Colon) I).yields good.0.1) j (spelled_default x i j good h)

  repeats : Repeats text (cases IsClause) n n (λ i. is_clause (behind text i).kind) (λ _ t. ends_items t.kind) (read.clause text c n r)
  repeats = record { rule = clause_rule; starts = clause_seen; moves = clause_moves; apart = λ x i good h. clause_ends_items (behind text i).kind h }

  abbrev Clauses : Syntax (List CaseClause)
  Clauses = which (row (cases IsClause)) (λ xs. (row (cases IsClause)).Good xs × (one_default xs ≡ true))

  last_ends : (xs : List CaseClause) (t : Token) → t.kind ≡ k.RightBrace → last_stops (λ _ u. ends_items u.kind) xs t ≡ true
  last_ends [] t e = refl
  last_ends (x ∷ []) t e = ap ends_items e
  last_ends (x ∷ y ∷ xs) t e = last_ends (y ∷ xs) t e

  clauses_rule : Rule text Clauses n n (list_stops (λ _ t. ends_items t.kind) (λ t. is_clause t.kind)) (read.clauses text c n r)
  unfolding read.clauses
  clauses_rule =
      such_rule text (row (cases IsClause)) n n (list_stops (λ _ t. ends_items t.kind) (λ t. is_clause t.kind)) one_default (many text (λ t. is_clause t.kind) (read.clause text c n r))
      (many_rule text (cases IsClause) n n (λ t. is_clause t.kind) (λ _ t. ends_items t.kind) (read.clause text c n r) repeats)

  abbrev Braced : Syntax (Token × (List CaseClause × Token))
  Braced = pairs (tokens k.LeftBrace) (pairs Clauses (tokens k.RightBrace))

  abbrev pub SwitchParts : Syntax (Token × (Token × (Expression × (Token × (Token × (List CaseClause × Token))))))
  SwitchParts = pairs (tokens k.Switch) (Headed text c n r values bodies lists Braced)

  switch_levels : (x b : ℕ) → max x b + 1 ≡ max 0 (max 0 (max x (max 0 (max 0 (max b 0))))) + 1
  switch_levels x b = omega arith

  pub switch_rule : Rule text (statements (Made SwitchParts make_switch)) n (suc n) (λ _ _. true) (read.switch_statement text c n r)
  unfolding read.switch_statement
  switch_rule =
      above_rule text SwitchParts (tokens_of_statement written) depth_of_statement n n (λ _ _. true) (λ _ _. true) make_switch (both (token text k.Switch) (plain.headed text c n r braced))
      (leading text (Headed text c n r values bodies lists Braced) n n k.Switch (λ _ _. true) (plain.headed text c n r braced) refl
      (headed_rule text c n r values bodies lists Braced (λ _ _. true) braced
      (leading text (pairs Clauses (tokens k.RightBrace)) n n k.LeftBrace (λ _ _. true) (both (read.clauses text c n r) (token text k.RightBrace)) refl
      (closing text Clauses n n k.RightBrace (list_stops (λ _ t. ends_items t.kind) (λ t. is_clause t.kind)) (read.clauses text c n r) refl clauses_rule
      (λ xs t good e. and_of _ _ (last_ends xs t e) (ap (λ kind. not (is_clause kind)) e))))))
      (omega arith) (λ p. tokens_Switch written p.0 p.1.0 p.1.1.0 p.1.1.1.0 p.1.1.1.1.0 p.1.1.1.1.1.0 p.1.1.1.1.1.1)
      (λ p. levels_Switch p.0 p.1.0 p.1.1.0 p.1.1.1.0 p.1.1.1.1.0 p.1.1.1.1.1.0 p.1.1.1.1.1.1 ∙ switch_levels (depth_of_expression p.1.1.0) (most (map depth_of_case_clause p.1.1.1.1.1.0))) (λ p t h. refl)
    where
      braced : Reader (Node (Token × (List CaseClause × Token)))
      braced = both (token text k.LeftBrace) (both (read.clauses text c n r) (token text k.RightBrace))

  -- ---- the family

  abbrev counts : Bool → List CaseClause → Bool
  counts true xs = one_default xs
  counts false xs = no_default xs

  count_case : (f : Bool) (x : CaseClause) (xs : List CaseClause) → is_default x ≡ false → counts f (x ∷ xs) ≡ counts f xs
  count_case true x xs e = ap (λ b. cond b (no_default xs) (one_default xs)) e
  count_case false x xs e = ap (λ b. not b && no_default xs) e

  count_default : (x : CaseClause) (xs : List CaseClause) → is_default x ≡ true → one_default (x ∷ xs) ≡ no_default xs
  count_default x xs e = ap (λ b. cond b (no_default xs) (one_default xs)) e

  never_default : (x : CaseClause) (xs : List CaseClause) → is_default x ≡ true → no_default (x ∷ xs) ≡ true → ⊥
  never_default x xs e h = let bad : false ≡ true = sym (ap (λ b. not b && no_default xs) e) ∙ h in cc

  one_clause : (x : CaseClause) (xs : List CaseClause) → IsClause x → ((f : Bool) → counts f xs ≡ true → AreCaseClauses text f c xs) → (f : Bool) → counts f (x ∷ xs) ≡ true → AreCaseClauses text f c (x ∷ xs)
  one_clause x xs (inl here) again f h =
      let p = here.0 in
      let rest = again f (sym (count_case f x xs (case_no_default x p.0 p.1.0 p.1.1.0 p.1.1.1 here.1)) ∙ h) in
      subst (λ y. AreCaseClauses text f c (y ∷ xs)) (sym here.1) (case_clause p.0 p.1.0 p.1.1.0 p.1.1.1 xs here.2.0 here.2.1.0 here.2.1.1.0 (are_items text c p.1.1.1 here.2.1.1.1) rest)
  one_clause x xs (inr here) again true h =
      let p = here.0 in
      let rest = again false (sym (count_default x xs (default_is x p.0 p.1.0 p.1.1 here.1)) ∙ h) in
      subst (λ y. AreCaseClauses text true c (y ∷ xs)) (sym here.1) (default_clause p.0 p.1.0 p.1.1 xs here.2.0 here.2.1.0 (are_items text c p.1.1 here.2.1.1) rest)
  one_clause x xs (inr here) again false h = absurd (never_default x xs (default_is x here.0.0 here.0.1.0 here.0.1.1 here.1) h)

  pub clauses_of : (xs : List CaseClause) → AllByRecursion IsClause xs → (f : Bool) → counts f xs ≡ true → AreCaseClauses text f c xs
  clauses_of [] good f h = no_clauses
  clauses_of (x ∷ xs) good f h = one_clause x xs good.0 (clauses_of xs good.1) f h

  no_count : (f : Bool) → counts f [] ≡ true
  no_count true = refl
  no_count false = refl

  pub all_clauses : (f : Bool) (xs : List CaseClause) → AreCaseClauses text f c xs → AllByRecursion IsClause xs × (counts f xs ≡ true)
  all_clauses f [] h = (tt, no_count f)
  all_clauses f (x ∷ xs) (case_clause word v colon body rest h1 h2 h3 h4 h5) =
      let more = all_clauses f xs h5 in
      ((inl ((word, (v, (colon, body))), refl, (h1, (h2, (h3, all_items text c body h4)))), more.0), count_case f x xs (case_no_default x word v colon body refl) ∙ more.1)
  all_clauses f (x ∷ xs) (default_clause word colon body rest h1 h2 h3 h4) =
      let more = all_clauses false xs h4 in
      ((inr ((word, (colon, body)), refl, (h1, (h2, all_items text c body h3))), more.0), count_default x xs (default_is x word colon body refl) ∙ more.1)
