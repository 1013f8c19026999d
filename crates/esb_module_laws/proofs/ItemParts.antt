-- Module items of each sort are read exactly.
use Rattle.std.proofs.Common.{◌≡◌, ◌⊎◌, inl, inr, ℕ, suc, ◌+◌, ◌≤◌, max, Bool, true, false, not, ◌&&◌, List, [], ◌∷◌, ◌++◌, length, Option, Some, None, Ok, refl, ap, sym, ◌∙◌, subst, append_assoc, append-nil, arith}
use Rattle.std.specs.Prelude.{nat_eq, take, drop, ◌-◌, codes}
use Rattle.std.specs.Cmp.Lexicographic.{pointwise, as_long}
use Rattle.esb_token.specs.declared.kind.Kind.{Kind}
use Rattle.esb_token.specs.declared.kind.Kind.TheVariants as k
use Rattle.esb_token.specs.declared.token.Token.{Token}
use Rattle.esb_token.specs.declared.goal.Goal.TheVariants as goal
use Rattle.esb_token.specs.Tokens.{SpelledBetween}
use Rattle.esb_tree.specs.declared.expressions.Expression.{Expression}
use Rattle.esb_tree.specs.declared.modules.ImportClause.{ImportClause}
use Rattle.esb_tree.specs.declared.modules.ModuleItem.{ModuleItem}
use Rattle.esb_tree.specs.declared.modules.ModuleItem.TheVariants as m
use Rattle.esb_tree.specs.declared.modules.Specifiers.{Specifiers}
use Rattle.esb_tree.specs.declared.statements.Statement.{Statement}
use Rattle.esb_tree.specs.declared.statements.Statement.TheVariants as s
use Rattle.esb_tree.specs.Levels.{depth_of_expression, depth_of_statement}
use Rattle.esb_tree.specs.Modules.{tokens_of_specifiers, tokens_of_import_clause, tokens_of_item, depth_of_item}
use Rattle.esb_tree.specs.Trees.{written}
use Rattle.esb_tree.specs.Yields.{Tokens, tokens_of_expression, tokens_of_statement}
use Rattle.esb_tree.proofs.LevelLines.{levels_FunctionDeclaration, levels_ClassDeclaration}
use Rattle.esb_tree.proofs.TokenLines.{tokens_FunctionDeclaration, tokens_ClassDeclaration}
use Rattle.esb_grammar.specs.Contexts.{of_module}
use Rattle.esb_grammar.specs.Edges.{takes_else, is_declaration}
use Rattle.esb_grammar.specs.Grammar.{IsItem, IsAssignment, IsFunction, IsClass}
use Rattle.esb_grammar.specs.Kinds.{is_identifier_name, is_comma, is_semicolon, is_name}
use Rattle.esb_grammar.specs.Modules.{AreSpecifiers, IsImportClause}
use Rattle.esb_grammar.specs.Semicolons.{end_from, nothing_goes_on, from_goes_on, expression_goes_on}
use Rattle.esb_grammar.specs.Words.{is_word}
use Rattle.esb_reader.specs.declared.node.Node.{Node}
use Rattle.esb_reader.specs.Places.{Text}
use Rattle.esb_reader.specs.Reader.{Reader}
use Rattle.esb_reader.specs.Parts.{behind, token, token_in, both, made, such, above, empty, optional}
use Rattle.esb_reader.specs.Stands.{Syntax, Rule, Made, pairs, tokens, tokens_in, which, maybe}
use Rattle.esb_reading_laws.proofs.Composed.{token_rule, token_in_rule, both_rule, plain_rule, above_rule, such_rule, choice_rule, optional_rule, empty_rule}
use Rattle.esb_reading_laws.proofs.Steps.{spelled_split}
use Rattle.esb_statement_laws.specs.Endings.{closed, closings, IsEndTest}
use Rattle.esb_statement_laws.specs.Handed.{expressions, statements, functions, classes}
use Rattle.esb_statement_laws.specs.Marks.{never_follows, is_else, statement_stops}
use Rattle.esb_statement_laws.specs.Statements.{behind_word}
use Rattle.esb_statement_laws.proofs.Bodies.{other_stops}
use Rattle.esb_statement_laws.proofs.Ended.{value_stops, value_ends}
use Rattle.esb_statement_laws.proofs.EndingsRead.{ends_at, closed_rule, lets_end_is, no_going_on}
use Rattle.esb_statement_laws.proofs.Followed.{leading, sees}
use Rattle.esb_module_laws.specs.Exact.{ExactItems}
use Rattle.esb_module_laws.specs.Items as read
use Rattle.esb_module_laws.specs.Items.{HandedItems, module_items, make_import_module, make_import, make_all_as, make_export_all, make_names_from, make_export_names, make_export_declaration, make_default_declaration, make_default_value, behind_clause, behind_names, behind_default}
use Rattle.esb_module_laws.specs.Marks.{is_as, is_from, follows_item}
use Rattle.esb_module_laws.specs.Specifiers.{specifier_lists, clauses, renaming, specifiers, import_clause}
use Rattle.esb_module_laws.proofs.Small.{word_kind, word_agrees, no_word, name_agrees}
use Rattle.esb_module_laws.proofs.Specified.{specifiers_rule}
use Rattle.esb_module_laws.proofs.Clauses.{clause_rule}

-- ---- `from` is another word than `as`

from_not_as : (bytes : List ℕ) → pointwise nat_eq bytes (codes "from") ≡ true → pointwise nat_eq bytes (codes "as") ≡ false
from_not_as bytes h = by_test _ refl
  where
    by_test : (b : Bool) → pointwise nat_eq bytes (codes "as") ≡ b → b ≡ false
    by_test false e = refl
    by_test true e = let four = as_long nat_eq bytes (codes "from") h in let two = as_long nat_eq bytes (codes "as") e in absurd (omega (arith, four, two))

from_no_as : (text : Text) (t : Token) → is_from text t ≡ true → not (is_as text t) ≡ true
unfolding is_word
from_no_as text t h = by_name (is_name t.kind) (take (t.end - t.start) (drop t.start text)) h
  where
    by_name : (a : Bool) (bytes : List ℕ) → (a && pointwise nat_eq bytes (codes "from")) ≡ true → not (a && pointwise nat_eq bytes (codes "as")) ≡ true
    by_name true bytes h = ap not (from_not_as bytes h)
    by_name false bytes h = cc

name_no_comma : (kind : Kind) → kind ≡ k.Name → not (is_comma kind) ≡ true
name_no_comma kind e = ap (λ q. not (is_comma q)) e

semicolon_no_name : (kind : Kind) → is_semicolon kind ≡ true → is_name kind ≡ false
semicolon_no_name k.Semicolon h = refl
semicolon_no_name _ h = cc

-- ---- what follows an item follows a statement

record Follows (kind : Kind) : Type 0 where
  never : never_follows kind ≡ false
  other : is_else kind ≡ false

follows : (kind : Kind) → follows_item kind ≡ true → Follows kind
follows k.Colon h = cc
follows k.Catch h = cc
follows k.Finally h = cc
follows k.Else h = cc
follows _ h = record { never = refl; other = refl }

pub statement_follows : (x : Statement) (t : Token) → follows_item t.kind ≡ true → statement_stops x t ≡ true
statement_follows x t h = let f = follows t.kind h in other_stops (takes_else x) t f.never f.other

module _ (text : Text) (n : ℕ) where
  abbrev pub item_stops : ModuleItem → Token → Bool
  item_stops x t = follows_item t.kind

  -- ---- FromClause

  abbrev pub From : Syntax (Token × Token)
  From = pairs (tokens_in (is_from text)) (tokens k.Text)

  from_rule : Rule text From n n (λ _ _. true) (read.from_clause text)
  from_rule =
      both_rule text (tokens_in (is_from text)) (tokens k.Text) n n (λ _ _. true) (λ _ _. true) (λ _ _. true) (token_in text goal.Div (is_from text)) (token text k.Text)
      (token_in_rule text n n goal.Div (is_from text) (λ t h. word_agrees text _ t h)) (token_rule text n n k.Text refl) (λ a b t h. refl) (λ a b m j ga gb h stop. refl)

  pub from_seen : (p : Token × Token) (m j : ℕ) → From.Good p → SpelledBetween text m (From.yields p) j → behind text m ≡ p.0
  from_seen p m j good h = sees text m p.0 (p.1 ∷ []) j h (word_agrees text _ p.0 good.0)

  from_ends : (p : Token × Token) (m j : ℕ) → SpelledBetween text m (From.yields p) j → (end_from 0 (p.1 ∷ []) ≡ j) × (j ≤ length text)
  from_ends p m j h = ends_at text p.0.end p.1 [] j h.2

  -- behind other tokens
  from_ends_behind : (ts : List Token) (p : Token × Token) (i j : ℕ) → SpelledBetween text i (ts ++ From.yields p) j → (end_from 0 (p.1 ∷ []) ≡ j) × (j ≤ length text)
  from_ends_behind ts p i j h = let cut = spelled_split text i ts (From.yields p) j h in from_ends p cut.0 j cut.2

  -- ---- ImportDeclaration

  abbrev Words : Syntax (Token × Token)
  Words = pairs (tokens k.Import) (tokens k.Text)

  abbrev pub ModuleParts : Syntax ((Token × Token) × Option Token)
  ModuleParts = closings text behind_word (λ p. p.1 ∷ []) Words

  pub import_module_rule : (r : HandedItems) → Rule text (module_items (Made ModuleParts make_import_module)) n (suc n) item_stops (read.import_module text n r)
  unfolding read.import_module
  import_module_rule r =
      above_rule text ModuleParts (tokens_of_item written) depth_of_item n n (λ _ _. true) item_stops make_import_module (closed text behind_word (both (token text k.Import) (token text k.Text)))
      (closed_rule text Words n n (λ _ _. true) behind_word (λ p. p.1 ∷ []) (both (token text k.Import) (token text k.Text)) (leading text (tokens k.Text) n n k.Import (λ _ _. true) (token text k.Text) refl (token_rule text n n k.Text refl))
      (λ p. lets_end_is nothing_goes_on) (λ p i m good h. ends_at text p.0.end p.1 [] m h.2) (λ p t good h. refl))
      (omega arith) (λ p. refl) (λ p. refl) (λ a t h. refl)

  abbrev Imports : Syntax (Token × (ImportClause × (Token × Token)))
  Imports = pairs (tokens k.Import) (pairs (clauses (IsImportClause text)) From)

  abbrev pub ImportParts : Syntax ((Token × (ImportClause × (Token × Token))) × Option Token)
  ImportParts = closings text behind_word (λ p. p.1.1.1 ∷ []) Imports

  pub import_rule : (r : HandedItems) → Rule text (module_items (Made ImportParts make_import)) n (suc n) item_stops (read.import_from text n r)
  unfolding read.import_from
  import_rule r =
      above_rule text ImportParts (tokens_of_item written) depth_of_item n n (λ _ _. true) item_stops make_import (closed text behind_word (both (token text k.Import) (both (import_clause text) (read.from_clause text))))
      (closed_rule text Imports n n (λ _ _. true) behind_word (λ p. p.1.1.1 ∷ []) (both (token text k.Import) (both (import_clause text) (read.from_clause text)))
      (leading text (pairs (clauses (IsImportClause text)) From) n n k.Import (λ _ _. true) (both (import_clause text) (read.from_clause text)) refl
      (both_rule text (clauses (IsImportClause text)) From n n (λ _ t. not (is_comma t.kind)) (λ _ _. true) (λ _ _. true) (import_clause text) (read.from_clause text) (clause_rule text n n) from_rule (λ a b t h. refl)
      (λ a b m j ga gb h stop. name_no_comma _ (ap (λ (u : Token). u.kind) (from_seen b m j gb h) ∙ word_kind text _ b.0 gb.0))))
      (λ p. lets_end_is nothing_goes_on) (λ p i m good h. from_ends_behind (tokens_of_import_clause p.1.0) p.1.1 p.0.end m h.2) (λ p t good h. refl))
      (omega arith) (λ p. ap (λ ts. p.0.0 ∷ ts) (sym (append_assoc (tokens_of_import_clause p.0.1.0) (p.0.1.1.0 ∷ p.0.1.1.1 ∷ []) (written p.1)))) (λ p. refl) (λ a t h. refl)

  -- ---- ExportDeclaration: all that a module exports

  abbrev pub Renaming : Syntax (Token × Token)
  Renaming = pairs (tokens_in (is_as text)) (tokens_in (λ t. is_identifier_name t.kind))

  abbrev no_as : Token → Bool
  no_as t = not (is_as text t)

  not_true : (b : Bool) → not b ≡ true → b ≡ false
  not_true true h = cc
  not_true false h = refl

  renaming_rule : Rule text (maybe Renaming) n n (λ _. no_as) (optional text (is_as text) (renaming text))
  renaming_rule =
      optional_rule text Renaming n n no_as (is_as text) (renaming text)
      (both_rule text (tokens_in (is_as text)) (tokens_in (λ t. is_identifier_name t.kind)) n n (λ _ _. true) (λ _ _. true) (λ _. no_as) (token_in text goal.Div (is_as text)) (token_in text goal.Div (λ t. is_identifier_name t.kind))
      (token_in_rule text n n goal.Div (is_as text) (λ t h. word_agrees text _ t h)) (token_in_rule text n n goal.Div (λ t. is_identifier_name t.kind) (λ t h. name_agrees t.kind h)) (λ a b t h. refl) (λ a b m j ga gb h stop. refl))
      (λ x i j good h. ap (is_as text) (sees text i x.0 (x.1 ∷ []) j h (word_agrees text _ x.0 good.0)) ∙ good.0) (λ t h. not_true _ h)

  abbrev Alls : Syntax (Token × (Token × (Option (Token × Token) × (Token × Token))))
  Alls = pairs (tokens k.Export) (pairs (tokens k.Star) (pairs (maybe Renaming) From))

  abbrev pub AllParts : Syntax ((Token × (Token × (Option (Token × Token) × (Token × Token)))) × Option Token)
  AllParts = closings text behind_word (λ p. p.1.1.1.1 ∷ []) Alls

  all_yields : (word star : Token) (o : Option (Token × Token)) (clause : Token × Token) (semicolon : Option Token) → tokens_of_item written (make_all_as word star o clause semicolon) ≡ AllParts.yields ((word, (star, (o, clause))), semicolon)
  all_yields word star None clause semicolon = refl
  all_yields word star (Some renaming) clause semicolon = refl

  all_levels : (word star : Token) (o : Option (Token × Token)) (clause : Token × Token) (semicolon : Option Token) → depth_of_item (make_all_as word star o clause semicolon) ≡ AllParts.levels_of ((word, (star, (o, clause))), semicolon) + 1
  all_levels word star None clause semicolon = refl
  all_levels word star (Some renaming) clause semicolon = refl

  pub export_all_rule : (r : HandedItems) → Rule text (module_items (Made AllParts make_export_all)) n (suc n) item_stops (read.export_all text n r)
  unfolding read.export_all
  export_all_rule r =
      above_rule text AllParts (tokens_of_item written) depth_of_item n n (λ _ _. true) item_stops make_export_all (closed text behind_word (both (token text k.Export) (both (token text k.Star) (both (optional text (is_as text) (renaming text)) (read.from_clause text)))))
      (closed_rule text Alls n n (λ _ _. true) behind_word (λ p. p.1.1.1.1 ∷ []) (both (token text k.Export) (both (token text k.Star) (both (optional text (is_as text) (renaming text)) (read.from_clause text))))
      (leading text (pairs (tokens k.Star) (pairs (maybe Renaming) From)) n n k.Export (λ _ _. true) (both (token text k.Star) (both (optional text (is_as text) (renaming text)) (read.from_clause text))) refl
      (leading text (pairs (maybe Renaming) From) n n k.Star (λ _ _. true) (both (optional text (is_as text) (renaming text)) (read.from_clause text)) refl
      (both_rule text (maybe Renaming) From n n (λ _. no_as) (λ _ _. true) (λ _ _. true) (optional text (is_as text) (renaming text)) (read.from_clause text) renaming_rule from_rule (λ a b t h. refl)
      (λ a b m j ga gb h stop. from_no_as text _ (ap (is_from text) (from_seen b m j gb h) ∙ gb.0)))))
      (λ p. lets_end_is nothing_goes_on) (λ p i m good h. from_ends_behind ((maybe Renaming).yields p.1.1.0) p.1.1.1 p.1.0.end m h.2.2) (λ p t good h. refl))
      (omega arith) (λ p. all_yields p.0.0 p.0.1.0 p.0.1.1.0 p.0.1.1.1 p.1) (λ p. all_levels p.0.0 p.0.1.0 p.0.1.1.0 p.0.1.1.1 p.1) (λ a t h. refl)

  -- ---- names

  abbrev Lists : Syntax Specifiers
  Lists = specifier_lists (AreSpecifiers text false)

  abbrev clause_stops : Option (Token × Token) → Token → Bool
  clause_stops None t = not (is_from text t)
  clause_stops (Some clause) t = true

  clause_seen : (o : Option (Token × Token)) (i j : ℕ) → Made From Some o → SpelledBetween text i ((maybe From).yields o) j → is_from text (behind text i) ≡ true
  clause_seen o i j good h = ap (is_from text) (from_seen good.0 i j good.2 (subst (λ q. SpelledBetween text i ((maybe From).yields q) j) good.1 h)) ∙ good.2.0

  nothing_seen : (o : Option (Token × Token)) (i j : ℕ) → o ≡ None → SpelledBetween text i ((maybe From).yields o) j → clause_stops o (behind text j) ≡ true → is_from text (behind text i) ≡ false
  nothing_seen o i j e h stop =
      let here : i ≡ j = subst (λ q. SpelledBetween text i ((maybe From).yields q) j) e h in
      ap (λ m. is_from text (behind text m)) here ∙ not_true _ (subst (λ q. clause_stops q (behind text j) ≡ true) e stop)

  clause_read : Rule text (maybe From) n n clause_stops (optional text (is_from text) (read.from_clause text))
  clause_read =
      choice_rule text (maybe From) (Made From Some) (λ q. q ≡ None) n n clause_stops (is_from text) (made Some 0 (read.from_clause text)) (empty None)
      (plain_rule text From (maybe From).yields (maybe From).levels_of n n (λ _ _. true) clause_stops Some (read.from_clause text) from_rule (λ a. refl) (λ a. refl) (λ a t h. refl))
      (empty_rule text (maybe From).yields (maybe From).levels_of n n clause_stops None refl refl) clause_seen nothing_seen

  abbrev NamesFrom : Syntax (Token × (Specifiers × Option (Token × Token)))
  NamesFrom = pairs (tokens k.Export) (pairs Lists (maybe From))

  -- the last tokens before the semicolon
  abbrev last_tokens : Specifiers → Option (Token × Token) → Tokens
  last_tokens list None = tokens_of_specifiers list
  last_tokens list (Some clause) = clause.1 ∷ []

  abbrev pub NamesParts : Syntax ((Token × (Specifiers × Option (Token × Token))) × Option Token)
  NamesParts = closings text (behind_names text) (λ p. last_tokens p.1.0 p.1.1) NamesFrom

  names_test : (o : Option (Token × Token)) → IsEndTest (behind_clause text o)
  names_test None = lets_end_is (from_goes_on text)
  names_test (Some clause) = lets_end_is nothing_goes_on

  names_end : (list : Specifiers) (o : Option (Token × Token)) (i j : ℕ) → SpelledBetween text i (tokens_of_specifiers list ++ (maybe From).yields o) j → (end_from 0 (last_tokens list o) ≡ j) × (j ≤ length text)
  names_end list None i j h = ends_at text i list.begin _ j (subst (λ ts. SpelledBetween text i ts j) (append-nil (tokens_of_specifiers list)) h)
  names_end list (Some clause) i j h = from_ends_behind (tokens_of_specifiers list) clause i j h

  names_apart : (o : Option (Token × Token)) (t : Token) → (is_semicolon t.kind ≡ true) ⊎ (behind_clause text o (Ok t) ≡ true) → clause_stops o t ≡ true
  names_apart None t (inl h) = ap not (no_word text _ t (semicolon_no_name t.kind h))
  names_apart None t (inr h) = ap not (no_going_on (from_goes_on text) t h)
  names_apart (Some clause) t h = refl

  names_yields : (word : Token) (list : Specifiers) (o : Option (Token × Token)) (semicolon : Option Token) → tokens_of_item written (make_names_from word list o semicolon) ≡ NamesParts.yields ((word, (list, o)), semicolon)
  names_yields word list None semicolon = ap (λ ts. word ∷ (ts ++ written semicolon)) (sym (append-nil (tokens_of_specifiers list)))
  names_yields word list (Some clause) semicolon = ap (λ ts. word ∷ ts) (sym (append_assoc (tokens_of_specifiers list) (clause.0 ∷ clause.1 ∷ []) (written semicolon)))

  names_levels : (word : Token) (list : Specifiers) (o : Option (Token × Token)) (semicolon : Option Token) → depth_of_item (make_names_from word list o semicolon) ≡ NamesParts.levels_of ((word, (list, o)), semicolon) + 1
  names_levels word list None semicolon = refl
  names_levels word list (Some clause) semicolon = refl

  pub export_names_rule : (r : HandedItems) → Rule text (module_items (Made NamesParts make_export_names)) n (suc n) item_stops (read.export_names text n r)
  unfolding read.export_names
  export_names_rule r =
      above_rule text NamesParts (tokens_of_item written) depth_of_item n n (λ _ _. true) item_stops make_export_names (closed text (behind_names text) (both (token text k.Export) (both (specifiers text false) (optional text (is_from text) (read.from_clause text)))))
      (closed_rule text NamesFrom n n (λ p. clause_stops p.1.1) (behind_names text) (λ p. last_tokens p.1.0 p.1.1) (both (token text k.Export) (both (specifiers text false) (optional text (is_from text) (read.from_clause text))))
      (leading text (pairs Lists (maybe From)) n n k.Export (λ p. clause_stops p.1) (both (specifiers text false) (optional text (is_from text) (read.from_clause text))) refl
      (both_rule text Lists (maybe From) n n (λ _ _. true) clause_stops (λ p. clause_stops p.1) (specifiers text false) (optional text (is_from text) (read.from_clause text)) (specifiers_rule text false n n) clause_read (λ a b t h. h) (λ a b m j ga gb h stop. refl)))
      (λ p. names_test p.1.1) (λ p i m good h. names_end p.1.0 p.1.1 p.0.end m h.2) (λ p t good h. names_apart p.1.1 t h))
      (omega arith) (λ p. names_yields p.0.0 p.0.1.0 p.0.1.1 p.1) (λ p. names_levels p.0.0 p.0.1.0 p.0.1.1 p.1) (λ a t h. refl)

-- ---- what stands in items is read exactly

module _ (text : Text) (n : ℕ) (r : HandedItems) (x : ExactItems text n r) where
  abbrev stops : ModuleItem → Token → Bool
  stops y t = follows_item t.kind

  abbrev Items : Syntax Statement
  Items = statements (IsItem text of_module)

  pub statement_rule : Rule text (module_items (Made Items m.Item)) n (suc n) stops (made m.Item 0 r.statement)
  statement_rule = plain_rule text Items (tokens_of_item written) depth_of_item n (suc n) statement_stops stops m.Item r.statement x.statements_read (λ a. refl) (λ a. refl) statement_follows

  -- a declaration

  abbrev pub Declared : Syntax Statement
  Declared = which Items (λ y. IsItem text of_module y × (is_declaration y ≡ true))

  abbrev pub DeclarationParts : Syntax (Token × Statement)
  DeclarationParts = pairs (tokens k.Export) Declared

  pub declaration_rule : Rule text (module_items (Made DeclarationParts make_export_declaration)) n (suc n) stops (read.export_declaration text n r)
  unfolding read.export_declaration
  declaration_rule =
      above_rule text DeclarationParts (tokens_of_item written) depth_of_item n (suc n) (λ p. statement_stops p.1) stops make_export_declaration (both (token text k.Export) (such r.statement is_declaration))
      (leading text Declared n (suc n) k.Export statement_stops (such r.statement is_declaration) refl (such_rule text Items n (suc n) statement_stops is_declaration r.statement x.statements_read))
      (omega arith) (λ p. refl) (λ p. let d = depth_of_statement p.1 in let e : d + 1 ≡ max 0 d + 1 = omega arith in e) (λ p t h. statement_follows p.1 t h)

  -- functions and classes whose names may be absent

  abbrev pub DefaultParts : (Statement → Type 0) → Syntax (Token × (Token × Statement))
  DefaultParts Good = pairs (tokens k.Export) (pairs (tokens k.Default) (statements Good))

  default_rule : (Good : Statement → Type 0) (p : Reader (Node Statement)) → Rule text (statements Good) n (suc n) (λ _ _. true) p → Rule text (module_items (Made (DefaultParts Good) make_default_declaration)) n (suc n) stops (read.default_declaration text n r p)
  default_rule Good p rule =
      above_rule text (DefaultParts Good) (tokens_of_item written) depth_of_item n (suc n) (λ _ _. true) stops make_default_declaration (both (token text k.Export) (both (token text k.Default) p))
      (leading text (pairs (tokens k.Default) (statements Good)) n (suc n) k.Export (λ _ _. true) (both (token text k.Default) p) refl (leading text (statements Good) n (suc n) k.Default (λ _ _. true) p refl rule))
      (omega arith) (λ q. refl) (λ q. let d = depth_of_statement q.1.1 in let e : d + 1 ≡ max 0 (max 0 d) + 1 = omega arith in e) (λ q t h. refl)

  abbrev pub IsDefaultFunction : Statement → Type 0
  IsDefaultFunction = Made (functions (IsFunction text false)) s.FunctionDeclaration

  abbrev pub IsDefaultClass : Statement → Type 0
  IsDefaultClass = Made (classes (IsClass text false of_module)) s.ClassDeclaration

  pub function_rule : Rule text (module_items (Made (DefaultParts IsDefaultFunction) make_default_declaration)) n (suc n) stops (read.default_function text n r)
  unfolding read.default_function
  function_rule =
      default_rule IsDefaultFunction (above n s.FunctionDeclaration r.function)
      (above_rule text (functions (IsFunction text false)) (tokens_of_statement written) depth_of_statement n n (λ _ _. true) (λ _ _. true) s.FunctionDeclaration r.function x.functions_read
      (omega arith) (tokens_FunctionDeclaration written) levels_FunctionDeclaration (λ q t h. refl))

  pub class_rule : Rule text (module_items (Made (DefaultParts IsDefaultClass) make_default_declaration)) n (suc n) stops (read.default_class text n r)
  unfolding read.default_class
  class_rule =
      default_rule IsDefaultClass (above n s.ClassDeclaration r.class)
      (above_rule text (classes (IsClass text false of_module)) (tokens_of_statement written) depth_of_statement n n (λ _ _. true) (λ _ _. true) s.ClassDeclaration r.class x.classes_read
      (omega arith) (tokens_ClassDeclaration written) levels_ClassDeclaration (λ q t h. refl))

  -- an expression

  abbrev Values : Syntax (Token × (Token × Expression))
  Values = pairs (tokens k.Export) (pairs (tokens k.Default) (expressions (IsAssignment text of_module)))

  abbrev pub ValueParts : Syntax ((Token × (Token × Expression)) × Option Token)
  ValueParts = closings text behind_default (λ p. tokens_of_expression written p.1.1) Values

  pub value_rule : Rule text (module_items (Made ValueParts make_default_value)) n (suc n) stops (read.default_value text n r)
  unfolding read.default_value
  value_rule =
      above_rule text ValueParts (tokens_of_item written) depth_of_item n n (λ _ _. true) stops make_default_value (closed text behind_default (both (token text k.Export) (both (token text k.Default) r.value)))
      (closed_rule text Values n n (λ p. x.values.stops p.1.1) behind_default (λ p. tokens_of_expression written p.1.1) (both (token text k.Export) (both (token text k.Default) r.value))
      (leading text (pairs (tokens k.Default) (expressions (IsAssignment text of_module))) n n k.Export (λ p. x.values.stops p.1) (both (token text k.Default) r.value) refl
      (leading text (expressions (IsAssignment text of_module)) n n k.Default x.values.stops r.value refl x.values.rule))
      (λ p. lets_end_is (expression_goes_on p.1.1)) (λ p i m good h. value_ends text (IsAssignment text of_module) n r.value x.values p.1.1 p.1.0.end m good.1.1 h.2.2)
      (λ p t good h. value_stops text (IsAssignment text of_module) n r.value x.values (expression_goes_on p.1.1) p.1.1 t good.1.1 (λ off. off) h))
      (omega arith) (λ p. refl) (λ p. let d = depth_of_expression p.0.1.1 in let e : d + 1 ≡ max (max 0 (max 0 d)) 0 + 1 = omega arith in e) (λ a t h. refl)
