-- What an `import` binds is read exactly.
use Rattle.std.proofs.Common.{◌≡◌, ◌⊎◌, inl, inr, ℕ, Bool, true, false, not, [], ◌∷◌, Option, Some, None, refl, ap, sym, ◌∙◌, subst}
use Rattle.esb_token.specs.declared.kind.Kind.TheVariants as k
use Rattle.esb_token.specs.declared.token.Token.{Token}
use Rattle.esb_token.specs.declared.goal.Goal.TheVariants as goal
use Rattle.esb_token.specs.Tokens.{SpelledBetween}
use Rattle.esb_tree.specs.declared.modules.ImportClause.{ImportClause}
use Rattle.esb_tree.specs.declared.modules.Specifiers.{Specifiers}
use Rattle.esb_tree.specs.Modules.{tokens_of_import_clause}
use Rattle.esb_grammar.specs.Kinds.{is_binding, is_comma, is_star}
use Rattle.esb_grammar.specs.Modules.{AreSpecifiers, IsImportClause, default_binding, name_space, names, default_and_name_space, default_and_names}
use Rattle.esb_reader.specs.Kinds.{agrees}
use Rattle.esb_reader.specs.Places.{Text}
use Rattle.esb_reader.specs.Parts.{behind, token, token_in, both, made, optional}
use Rattle.esb_reader.specs.Stands.{Syntax, Rule, Made, pairs, tokens, tokens_in, maybe}
use Rattle.esb_reading_laws.proofs.Composed.{token_rule, token_in_rule, both_rule, plain_rule, same_rule, choice_rule, optional_rule}
use Rattle.esb_statement_laws.proofs.Followed.{leading, sees}
use Rattle.esb_module_laws.specs.declared.imported.Imported.{Imported}
use Rattle.esb_module_laws.specs.declared.imported.Imported.TheVariants as b
use Rattle.esb_module_laws.specs.Marks.{is_as}
use Rattle.esb_module_laws.specs.Specifiers as read
use Rattle.esb_module_laws.specs.Specifiers.{specifier_lists, tokens_of_imported, imports, clauses, make_name_space, make_alone, make_behind, make_default}
use Rattle.esb_module_laws.proofs.Small.{there, word_agrees, binding_agrees}
use Rattle.esb_module_laws.proofs.Specified.{specifiers_rule, brace_first}

of_no_comma : (b : Bool) → not b ≡ true → b ≡ false
of_no_comma true h = cc
of_no_comma false h = refl

module _ (text : Text) (n top : ℕ) where
  abbrev is_bound_token : Token → Bool
  is_bound_token t = is_binding t.kind

  abbrev is_comma_token : Token → Bool
  is_comma_token t = is_comma t.kind

  abbrev no_comma : Token → Bool
  no_comma t = not (is_comma t.kind)

  -- ---- beside a default

  abbrev Space : Syntax (Token × (Token × Token))
  Space = pairs (tokens k.Star) (pairs (tokens_in (is_as text)) (tokens_in is_bound_token))

  abbrev Lists : Syntax Specifiers
  Lists = specifier_lists (AreSpecifiers text true)

  abbrev pub IsSpace : Imported → Type 0
  IsSpace = Made Space make_name_space

  abbrev pub AreNames : Imported → Type 0
  AreNames = Made Lists b.Names

  abbrev pub IsImported : Imported → Type 0
  IsImported x = IsSpace x ⊎ AreNames x

  space_rule : Rule text (imports IsSpace) n top (λ _ _. true) (made make_name_space 0 (read.name_space text))
  space_rule =
      plain_rule text Space tokens_of_imported (λ x. 0) n top (λ _ _. true) (λ _ _. true) make_name_space (read.name_space text)
      (leading text (pairs (tokens_in (is_as text)) (tokens_in is_bound_token)) n top k.Star (λ _ _. true) (both (token_in text goal.Div (is_as text)) (token_in text goal.Div is_bound_token)) refl
      (both_rule text (tokens_in (is_as text)) (tokens_in is_bound_token) n top (λ _ _. true) (λ _ _. true) (λ _ _. true) (token_in text goal.Div (is_as text)) (token_in text goal.Div is_bound_token)
      (token_in_rule text n top goal.Div (is_as text) (λ t h. word_agrees text _ t h)) (token_in_rule text n top goal.Div is_bound_token (λ t h. binding_agrees t.kind h)) (λ a c t h. refl) (λ a c m j ga gc h stop. refl)))
      (λ o. refl) (λ o. refl) (λ a t h. refl)

  names_rule : Rule text (imports AreNames) n top (λ _ _. true) (made b.Names 0 (read.specifiers text true))
  names_rule = plain_rule text Lists tokens_of_imported (λ x. 0) n top (λ _ _. true) (λ _ _. true) b.Names (read.specifiers text true) (specifiers_rule text true n top) (λ o. refl) (λ o. refl) (λ a t h. refl)

  -- a star or a brace is seen
  star_seen : (x : Imported) (i j : ℕ) → IsSpace x → SpelledBetween text i (tokens_of_imported x) j → (behind text i).kind ≡ k.Star
  star_seen x i j good h =
      let o = good.0 in
      let spelled : SpelledBetween text i (o.0 ∷ o.1.0 ∷ o.1.1 ∷ []) j = subst (λ y. SpelledBetween text i (tokens_of_imported y) j) good.1 h in
      ap (λ (u : Token). u.kind) (sees text i o.0 (o.1.0 ∷ o.1.1 ∷ []) j spelled (ap (agrees goal.Div) good.2.0)) ∙ good.2.0

  brace_seen : (x : Imported) (i j : ℕ) → AreNames x → SpelledBetween text i (tokens_of_imported x) j → (behind text i).kind ≡ k.LeftBrace
  brace_seen x i j good h =
      ap (λ (u : Token). u.kind) (brace_first text true good.0 i j good.2 (subst (λ y. SpelledBetween text i (tokens_of_imported y) j) good.1 h)) ∙ good.2.begin

  pub imported_rule : Rule text (imports IsImported) n top (λ _ _. true) (read.imported text)
  unfolding read.imported
  imported_rule =
      choice_rule text (imports IsImported) IsSpace AreNames n top (λ _ _. true) (λ t. is_star t.kind) (made make_name_space 0 (read.name_space text)) (made b.Names 0 (read.specifiers text true)) space_rule names_rule
      (λ x i j good h. ap is_star (star_seen x i j good h)) (λ x i j good h stop. ap is_star (brace_seen x i j good h))

  -- ---- a default, and what stands behind it

  abbrev More : Syntax (Token × Imported)
  More = pairs (tokens k.Comma) (imports IsImported)

  more_rule : Rule text More n top (λ _. no_comma) (both (token text k.Comma) (read.imported text))
  more_rule =
      both_rule text (tokens k.Comma) (imports IsImported) n top (λ _ _. true) (λ _ _. true) (λ _. no_comma) (token text k.Comma) (read.imported text) (token_rule text n top k.Comma refl) imported_rule
      (λ a c t h. refl) (λ a c m j ga gc h stop. refl)

  comma_seen : (x : Token × Imported) (i j : ℕ) → More.Good x → SpelledBetween text i (More.yields x) j → is_comma_token (behind text i) ≡ true
  comma_seen x i j good h = ap is_comma_token (sees text i x.0 (tokens_of_imported x.1) j h (ap (agrees goal.Div) good.0)) ∙ ap is_comma good.0

  abbrev Defaults : Syntax (Token × Option (Token × Imported))
  Defaults = pairs (tokens_in is_bound_token) (maybe More)

  defaults_rule : Rule text Defaults n top (λ _. no_comma) (read.defaulted text)
  defaults_rule =
      both_rule text (tokens_in is_bound_token) (maybe More) n top (λ _ _. true) (λ _. no_comma) (λ _. no_comma) (token_in text goal.Div is_bound_token) (optional text is_comma_token (both (token text k.Comma) (read.imported text)))
      (token_in_rule text n top goal.Div is_bound_token (λ t h. binding_agrees t.kind h))
      (optional_rule text More n top no_comma is_comma_token (both (token text k.Comma) (read.imported text)) more_rule comma_seen (λ t h. of_no_comma _ h))
      (λ a c t h. h) (λ a c m j ga gc h stop. refl)

  default_yields : (o : Token × Option (Token × Imported)) → tokens_of_import_clause (make_default o) ≡ Defaults.yields o
  default_yields (name, None) = refl
  default_yields (name, Some (comma, b.NameSpace star word other)) = refl
  default_yields (name, Some (comma, b.Names list)) = refl

  default_levels : (o : Token × Option (Token × Imported)) → 0 ≡ Defaults.levels_of o
  default_levels (name, None) = refl
  default_levels (name, Some more) = refl

  alone_yields : (x : Imported) → tokens_of_import_clause (make_alone x) ≡ tokens_of_imported x
  alone_yields (b.NameSpace star word name) = refl
  alone_yields (b.Names list) = refl

  abbrev IsDefault : ImportClause → Type 0
  IsDefault = Made Defaults make_default

  abbrev IsAlone : ImportClause → Type 0
  IsAlone = Made (imports IsImported) make_alone

  default_first : (o : Token × Option (Token × Imported)) → Defaults.yields o ≡ o.0 ∷ (maybe More).yields o.1
  default_first (name, None) = refl
  default_first (name, Some more) = refl

  bound_seen : (x : ImportClause) (i j : ℕ) → IsDefault x → SpelledBetween text i (tokens_of_import_clause x) j → is_bound_token (behind text i) ≡ true
  bound_seen x i j good h =
      let o = good.0 in
      let spelled = subst (λ ts. SpelledBetween text i ts j) (ap tokens_of_import_clause good.1 ∙ default_yields o ∙ default_first o) h in
      ap is_bound_token (sees text i o.0 ((maybe More).yields o.1) j spelled (binding_agrees o.0.kind good.2.0)) ∙ good.2.0

  alone_seen : (x : Imported) (i j : ℕ) → IsImported x → SpelledBetween text i (tokens_of_imported x) j → is_binding (behind text i).kind ≡ false
  alone_seen x i j (inl good) h = ap is_binding (star_seen x i j good h)
  alone_seen x i j (inr good) h = ap is_binding (brace_seen x i j good h)

  parts_rule : Rule text (clauses (λ x. IsDefault x ⊎ IsAlone x)) n top (λ _. no_comma) (read.import_clause text)
  unfolding read.import_clause
  parts_rule =
      choice_rule text (clauses (λ x. IsDefault x ⊎ IsAlone x)) IsDefault IsAlone n top (λ _. no_comma) is_bound_token (made make_default 0 (read.defaulted text)) (made make_alone 0 (read.imported text))
      (plain_rule text Defaults tokens_of_import_clause (λ x. 0) n top (λ _. no_comma) (λ _. no_comma) make_default (read.defaulted text) defaults_rule default_yields default_levels (λ a t h. h))
      (plain_rule text (imports IsImported) tokens_of_import_clause (λ x. 0) n top (λ _ _. true) (λ _. no_comma) make_alone (read.imported text) imported_rule alone_yields (λ a. refl) (λ a t h. refl))
      bound_seen
      (λ x i j good h stop. alone_seen good.0 i j good.2 (subst (λ ts. SpelledBetween text i ts j) (ap tokens_of_import_clause good.1 ∙ alone_yields good.0) h))

  -- ---- in the words of the grammar

  behind_of : (name comma : Token) (x : Imported) → is_binding name.kind ≡ true → comma.kind ≡ k.Comma → IsImported x → IsImportClause text (make_behind name comma x)
  behind_of name comma x h c (inl good) = subst (λ y. IsImportClause text (make_behind name comma y)) (sym good.1) (default_and_name_space h c good.2.0 good.2.1.0 good.2.1.1)
  behind_of name comma x h c (inr good) = subst (λ y. IsImportClause text (make_behind name comma y)) (sym good.1) (default_and_names h c good.2)

  default_of : (name : Token) (o : Option (Token × Imported)) → is_binding name.kind ≡ true → (maybe More).Good o → IsImportClause text (make_default (name, o))
  default_of name None h good = default_binding h
  default_of name (Some more) h good = let g = there More more good in behind_of name more.0 more.1 h g.0 g.1

  alone_of : (x : Imported) → IsImported x → IsImportClause text (make_alone x)
  alone_of x (inl good) = subst (λ y. IsImportClause text (make_alone y)) (sym good.1) (name_space good.2.0 good.2.1.0 good.2.1.1)
  alone_of x (inr good) = subst (λ y. IsImportClause text (make_alone y)) (sym good.1) (names good.2)

  clause_of : (x : ImportClause) → IsDefault x ⊎ IsAlone x → IsImportClause text x
  clause_of x (inl good) = subst (IsImportClause text) (sym good.1) (default_of good.0.0 good.0.1 good.2.0 good.2.1)
  clause_of x (inr good) = subst (IsImportClause text) (sym good.1) (alone_of good.0 good.2)

  clause_back : (x : ImportClause) → IsImportClause text x → IsDefault x ⊎ IsAlone x
  clause_back x (default_binding {name = t} h) = inl ((t, None), refl, (h, inr refl))
  clause_back x (name_space {star = s} {word = w} {name = t} h g i) = inr (b.NameSpace s w t, refl, inl ((s, (w, t)), refl, (h, (g, i))))
  clause_back x (names {list = l} h) = inr (b.Names l, refl, inr (l, refl, h))
  clause_back x (default_and_name_space {default = d} {comma = c} {star = s} {word = w} {name = t} h1 h2 h3 h4 h5) =
      inl ((d, Some (c, b.NameSpace s w t)), refl, (h1, inl ((c, b.NameSpace s w t), refl, (h2, inl ((s, (w, t)), refl, (h3, (h4, h5)))))))
  clause_back x (default_and_names {default = d} {comma = c} {list = l} h1 h2 h3) =
      inl ((d, Some (c, b.Names l)), refl, (h1, inl ((c, b.Names l), refl, (h2, inr (l, refl, h3)))))

pub clause_rule : (text : Text) (n top : ℕ) → Rule text (clauses (IsImportClause text)) n top (λ _ t. not (is_comma t.kind)) (read.import_clause text)
clause_rule text n top =
    same_rule text (clauses (λ x. IsDefault text n top x ⊎ IsAlone text n top x)) (clauses (IsImportClause text)) n top (λ _ t. not (is_comma t.kind)) (λ _ t. not (is_comma t.kind)) (read.import_clause text) (parts_rule text n top) refl refl
    (clause_of text n top) (clause_back text n top) (λ x t good h. h)
