-- Specifiers are read exactly.
use Rattle.std.proofs.Common.{◌≡◌, ◌⊎◌, inl, inr, ℕ, Bool, true, false, not, ◌&&◌, ◌||◌, List, [], ◌∷◌, ◌++◌, map, max, Option, Some, None, refl, ap, sym, ◌∙◌, subst}
use Rattle.std.specs.List.{flat_map, AllByRecursion}
use Rattle.esb_token.specs.declared.kind.Kind.TheVariants as k
use Rattle.esb_token.specs.declared.token.Token.{Token}
use Rattle.esb_token.specs.declared.goal.Goal.TheVariants as goal
use Rattle.esb_token.specs.Tokens.{SpelledBetween}
use Rattle.esb_tree.specs.declared.modules.NextSpecifier.{NextSpecifier}
use Rattle.esb_tree.specs.declared.modules.Specifier.{Specifier}
use Rattle.esb_tree.specs.declared.modules.Specifier.TheVariants as p
use Rattle.esb_tree.specs.declared.modules.Specifiers.{Specifiers}
use Rattle.esb_tree.specs.Levels.{most}
use Rattle.esb_tree.specs.Modules.{tokens_of_specifier, tokens_of_next_specifier, tokens_of_specifiers}
use Rattle.esb_grammar.specs.Forms.{is_empty}
use Rattle.esb_grammar.specs.Kinds.{is_identifier_name, is_comma}
use Rattle.esb_grammar.specs.Modules.{IsSpecifier, no_specifier, import_name, import_renamed, export_name, export_renamed, AreNextSpecifiers, no_specifiers, more_specifiers, AreSpecifiers}
use Rattle.esb_reader.specs.Kinds.{agrees}
use Rattle.esb_reader.specs.Places.{Text}
use Rattle.esb_reader.specs.Parts.{behind, token, token_in, both, made, empty, optional, many}
use Rattle.esb_reader.specs.Stands.{Syntax, Rule, Made, pairs, row, tokens, tokens_in, maybe, last_stops, list_stops}
use Rattle.esb_reading_laws.specs.Laws.{Repeats}
use Rattle.esb_reading_laws.proofs.Composed.{token_rule, token_in_rule, both_rule, plain_rule, such_rule, same_rule, choice_rule, optional_rule, empty_rule}
use Rattle.esb_reading_laws.proofs.Rows.{many_rule}
use Rattle.esb_statement_laws.proofs.Followed.{leading, sees}
use Rattle.esb_statement_laws.proofs.EndingsRead.{spelled_moves}
use Rattle.esb_module_laws.specs.Marks.{is_as, ends_specifier}
use Rattle.esb_module_laws.specs.Specifiers as read
use Rattle.esb_module_laws.specs.Specifiers.{specifier_lists, make_specifier, make_next, make_specifiers, is_allowed, is_something, are_filled, is_filled}
use Rattle.esb_module_laws.proofs.Small.{there, word_agrees, no_word, name_agrees, binding_is_name, ends_no_name, ends_no_word, comma_ends}

and_of : (a b : Bool) → a ≡ true → b ≡ true → (a && b) ≡ true
and_of true b h g = g
and_of false b h g = cc

first_of : (a b : Bool) → (a && b) ≡ true → a ≡ true
first_of true b h = refl
first_of false b h = cc

second_of : (a b : Bool) → (a && b) ≡ true → b ≡ true
second_of true b h = h
second_of false b h = cc

module _ (text : Text) (is_import : Bool) (n top : ℕ) where
  abbrev ends : Token → Bool
  ends t = ends_specifier t.kind

  abbrev is_name_token : Token → Bool
  is_name_token t = is_identifier_name t.kind

  abbrev specifier_nodes : (Specifier → Type 0) → Syntax Specifier
  specifier_nodes Good = record { yields = tokens_of_specifier; levels_of = λ x. 0; Good = Good }

  -- ---- `as` and a name

  abbrev Renaming : Syntax (Token × Token)
  Renaming = pairs (tokens_in (is_as text)) (tokens_in is_name_token)

  renaming_rule : Rule text Renaming n top (λ _. ends) (read.renaming text)
  renaming_rule =
      both_rule text (tokens_in (is_as text)) (tokens_in is_name_token) n top (λ _ _. true) (λ _ _. true) (λ _. ends) (token_in text goal.Div (is_as text)) (token_in text goal.Div is_name_token)
      (token_in_rule text n top goal.Div (is_as text) (λ t h. word_agrees text _ t h)) (token_in_rule text n top goal.Div is_name_token (λ t h. name_agrees t.kind h))
      (λ a b t h. refl) (λ a b m j ga gb h stop. refl)

  as_seen : (x : Token × Token) (i j : ℕ) → Renaming.Good x → SpelledBetween text i (Renaming.yields x) j → is_as text (behind text i) ≡ true
  as_seen x i j good h = ap (is_as text) (sees text i x.0 (x.1 ∷ []) j h (word_agrees text _ x.0 good.0)) ∙ good.0

  -- ---- one specifier

  abbrev Names : Syntax (Token × Option (Token × Token))
  Names = pairs (tokens_in is_name_token) (maybe Renaming)

  names_rule : Rule text Names n top (λ _. ends) (both (token_in text goal.Div is_name_token) (optional text (is_as text) (read.renaming text)))
  names_rule =
      both_rule text (tokens_in is_name_token) (maybe Renaming) n top (λ _ _. true) (λ _. ends) (λ _. ends) (token_in text goal.Div is_name_token) (optional text (is_as text) (read.renaming text))
      (token_in_rule text n top goal.Div is_name_token (λ t h. name_agrees t.kind h))
      (optional_rule text Renaming n top ends (is_as text) (read.renaming text) renaming_rule as_seen (λ t h. no_word text _ t (ends_no_word t.kind h)))
      (λ a b t h. h) (λ a b m j ga gb h stop. refl)

  specifier_yields : (o : Token × Option (Token × Token)) → tokens_of_specifier (make_specifier o) ≡ Names.yields o
  specifier_yields (name, None) = refl
  specifier_yields (name, Some renaming) = refl

  specifier_levels : (o : Token × Option (Token × Token)) → 0 ≡ Names.levels_of o
  specifier_levels (name, None) = refl
  specifier_levels (name, Some renaming) = refl

  abbrev IsOne : Specifier → Type 0
  IsOne x = Made Names make_specifier x × (is_allowed is_import x ≡ true)

  specifier_rule : Rule text (specifier_nodes IsOne) n top (λ _. ends) (read.specifier text is_import)
  unfolding read.specifier
  specifier_rule =
      such_rule text (specifier_nodes (Made Names make_specifier)) n top (λ _. ends) (is_allowed is_import) (made make_specifier 0 (both (token_in text goal.Div is_name_token) (optional text (is_as text) (read.renaming text))))
      (plain_rule text Names tokens_of_specifier (λ x. 0) n top (λ _. ends) (λ _. ends) make_specifier (both (token_in text goal.Div is_name_token) (optional text (is_as text) (read.renaming text))) names_rule specifier_yields specifier_levels (λ a t h. h))

  -- ---- one, or nothing

  abbrev IsLoose : Specifier → Type 0
  IsLoose x = IsOne x ⊎ (x ≡ p.NoSpecifier)

  name_first : (o : Token × Option (Token × Token)) → Names.yields o ≡ o.0 ∷ (maybe Renaming).yields o.1
  name_first (name, None) = refl
  name_first (name, Some renaming) = refl

  name_seen : (x : Specifier) (i j : ℕ) → IsOne x → SpelledBetween text i (tokens_of_specifier x) j → is_name_token (behind text i) ≡ true
  name_seen x i j good h =
      let o = good.0.0 in
      let spelled = subst (λ ts. SpelledBetween text i ts j) (ap tokens_of_specifier good.0.1 ∙ specifier_yields o ∙ name_first o) h in
      ap is_name_token (sees text i o.0 ((maybe Renaming).yields o.1) j spelled (name_agrees o.0.kind good.0.2.0)) ∙ good.0.2.0

  nothing_seen : (x : Specifier) (i j : ℕ) → x ≡ p.NoSpecifier → SpelledBetween text i (tokens_of_specifier x) j → ends (behind text j) ≡ true → is_name_token (behind text i) ≡ false
  nothing_seen x i j e h stop =
      let here : i ≡ j = subst (λ y. SpelledBetween text i (tokens_of_specifier y) j) e h in
      ap (λ m. is_name_token (behind text m)) here ∙ ends_no_name _ stop

  abbrev Loose : Syntax Specifier
  Loose = specifier_nodes IsLoose

  loose_rule : Rule text Loose n top (λ _. ends) (read.maybe_specifier text is_import)
  unfolding read.maybe_specifier
  loose_rule =
      choice_rule text Loose IsOne (λ x. x ≡ p.NoSpecifier) n top (λ _. ends) is_name_token (read.specifier text is_import) (empty p.NoSpecifier) specifier_rule
      (empty_rule text tokens_of_specifier (λ x. 0) n top (λ _. ends) p.NoSpecifier refl refl) name_seen nothing_seen

  -- ---- a comma, and the next one

  abbrev Nexts : Syntax NextSpecifier
  Nexts = record { yields = tokens_of_next_specifier; levels_of = λ o. 0; Good = Made (pairs (tokens k.Comma) Loose) make_next }

  next_rule : Rule text Nexts n top (λ _. ends) (read.next_specifier text is_import)
  unfolding read.next_specifier
  next_rule =
      plain_rule text (pairs (tokens k.Comma) Loose) tokens_of_next_specifier (λ o. 0) n top (λ _. ends) (λ _. ends) make_next (both (token text k.Comma) (read.maybe_specifier text is_import))
      (leading text Loose n top k.Comma (λ _. ends) (read.maybe_specifier text is_import) refl loose_rule) (λ o. refl) (λ o. refl) (λ a t h. h)

  spelled_next : (o : NextSpecifier) (i j : ℕ) (good : Nexts.Good o) → SpelledBetween text i (tokens_of_next_specifier o) j → SpelledBetween text i (good.0.0 ∷ tokens_of_specifier good.0.1) j
  spelled_next o i j good h = subst (λ x. SpelledBetween text i (tokens_of_next_specifier x) j) good.1 h

  comma_seen : (o : NextSpecifier) (i j : ℕ) → Nexts.Good o → SpelledBetween text i (tokens_of_next_specifier o) j → is_comma (behind text i).kind ≡ true
  comma_seen o i j good h =
      ap (λ (u : Token). is_comma u.kind) (sees text i good.0.0 _ j (spelled_next o i j good h) (ap (agrees goal.Div) good.2.0)) ∙ ap is_comma good.2.0

  repeats : Repeats text Nexts n top (λ i. is_comma (behind text i).kind) (λ _. ends) (read.next_specifier text is_import)
  repeats = record {
    rule = next_rule;
    starts = comma_seen;
    moves = λ o i j good h. spelled_moves text i good.0.0 _ j (spelled_next o i j good h);
    apart = λ o i good h. comma_ends _ h;
  }

  -- ---- in braces

  last_ends : (os : List NextSpecifier) (t : Token) → t.kind ≡ k.RightBrace → list_stops (λ _. ends) (λ u. is_comma u.kind) os t ≡ true
  last_ends os t e = and_of _ _ (by_list os) (ap (λ kind. not (is_comma kind)) e)
    where
      by_list : (os : List NextSpecifier) → last_stops (λ _. ends) os t ≡ true
      by_list [] = refl
      by_list (o ∷ []) = ap ends_specifier e
      by_list (o ∷ q ∷ os) = by_list (q ∷ os)

  brace_seen : (m j : ℕ) (t : Token) → t.kind ≡ k.RightBrace → SpelledBetween text m (t ∷ []) j → (behind text m).kind ≡ k.RightBrace
  brace_seen m j t e h = ap (λ (u : Token). u.kind) (sees text m t [] j h (ap (agrees goal.Div) e)) ∙ e

  abbrev Rest : Syntax (List NextSpecifier × Token)
  Rest = pairs (row Nexts) (tokens k.RightBrace)

  rest_rule : Rule text Rest n top (λ _ _. true) (both (many text (λ t. is_comma t.kind) (read.next_specifier text is_import)) (token text k.RightBrace))
  rest_rule =
      both_rule text (row Nexts) (tokens k.RightBrace) n top (list_stops (λ _. ends) (λ u. is_comma u.kind)) (λ _ _. true) (λ _ _. true) (many text (λ t. is_comma t.kind) (read.next_specifier text is_import)) (token text k.RightBrace)
      (many_rule text Nexts n top (λ t. is_comma t.kind) (λ _. ends) (read.next_specifier text is_import) repeats) (token_rule text n top k.RightBrace refl)
      (λ a b t h. refl) (λ os b m j gos gb h stop. last_ends os (behind text m) (brace_seen m j b gb h))

  -- a comma or the brace ends the first
  first_ends : (os : List NextSpecifier) (b : Token) (m j : ℕ) → Rest.Good (os, b) → SpelledBetween text m (Rest.yields (os, b)) j → ends (behind text m) ≡ true
  first_ends [] b m j good h = ap ends_specifier (brace_seen m j b good.1 h)
  first_ends (o ∷ os) b m j good h =
      let o_good = good.0.0 in
      let spelled : SpelledBetween text m (o.comma ∷ ((tokens_of_specifier o.specifier ++ flat_map tokens_of_next_specifier os) ++ (b ∷ []))) j = h in
      let kind : o.comma.kind ≡ k.Comma = ap (λ (x : NextSpecifier). x.comma.kind) o_good.1 ∙ o_good.2.0 in
      ap ends (sees text m o.comma _ j spelled (ap (agrees goal.Div) kind)) ∙ ap ends_specifier kind

  abbrev Inside : Syntax (Specifier × (List NextSpecifier × Token))
  Inside = pairs Loose Rest

  inside_rule : Rule text Inside n top (λ _ _. true) (both (read.maybe_specifier text is_import) (both (many text (λ t. is_comma t.kind) (read.next_specifier text is_import)) (token text k.RightBrace)))
  inside_rule =
      both_rule text Loose Rest n top (λ _. ends) (λ _ _. true) (λ _ _. true) (read.maybe_specifier text is_import) (both (many text (λ t. is_comma t.kind) (read.next_specifier text is_import)) (token text k.RightBrace)) loose_rule rest_rule
      (λ a b t h. refl) (λ x b m j gx gb h stop. first_ends b.0 b.1 m j gb h)

  abbrev Braced : Syntax (Token × (Specifier × (List NextSpecifier × Token)))
  Braced = pairs (tokens k.LeftBrace) Inside

  no_levels : (os : List NextSpecifier) → most (map Nexts.levels_of os) ≡ 0
  no_levels [] = refl
  no_levels (o ∷ os) = ap (λ l. max 0 l) (no_levels os)

  abbrev IsList : Specifiers → Type 0
  IsList x = Made Braced make_specifiers x × (is_filled x ≡ true)

  list_rule : Rule text (specifier_lists IsList) n top (λ _ _. true) (read.specifiers text is_import)
  unfolding read.specifiers
  list_rule =
      such_rule text (specifier_lists (Made Braced make_specifiers)) n top (λ _ _. true) is_filled (read.loose_list text is_import)
      (plain_rule text Braced tokens_of_specifiers (λ x. 0) n top (λ _ _. true) (λ _ _. true) make_specifiers
      (both (token text k.LeftBrace) (both (read.maybe_specifier text is_import) (both (many text (λ t. is_comma t.kind) (read.next_specifier text is_import)) (token text k.RightBrace))))
      (leading text Inside n top k.LeftBrace (λ _ _. true) (both (read.maybe_specifier text is_import) (both (many text (λ t. is_comma t.kind) (read.next_specifier text is_import)) (token text k.RightBrace))) refl inside_rule)
      (λ o. refl) (λ o. sym (ap (λ l. max 0 (max 0 (max l 0))) (no_levels o.1.1.0))) (λ a t h. refl))

-- ---- in the words of the grammar

module _ (text : Text) where
  abbrev Renamings : Syntax (Token × Token)
  Renamings = pairs (tokens_in (is_as text)) (tokens_in (λ t. is_identifier_name t.kind))

  named : (is_import last : Bool) (name : Token) (o : Option (Token × Token)) → is_identifier_name name.kind ≡ true → (maybe Renamings).Good o → is_allowed is_import (make_specifier (name, o)) ≡ true
      → IsSpecifier text is_import last (make_specifier (name, o))
  named true last name None h g a = import_name a
  named false last name None h g a = export_name a
  named true last name (Some r) h g a = import_renamed h (there Renamings r g).0 a
  named false last name (Some r) h g a = export_renamed h (there Renamings r g).0 a

  specifier_of : (is_import last : Bool) (n top : ℕ) (x : Specifier) → IsLoose text is_import n top x → (is_something x || last) ≡ true → IsSpecifier text is_import last x
  specifier_of is_import last n top x (inl h) placed =
      let o = h.0.0 in
      let e = h.0.1 in
      subst (IsSpecifier text is_import last) (sym e) (named is_import last o.0 o.1 h.0.2.0 h.0.2.1 (subst (λ y. is_allowed is_import y ≡ true) e h.1))
  specifier_of is_import last n top x (inr e) placed =
      let end : last ≡ true = subst (λ y. (is_something y || last) ≡ true) e placed in
      subst (λ b. IsSpecifier text is_import b x) (sym end) (subst (IsSpecifier text is_import true) (sym e) no_specifier)

  specifier_back : (is_import last : Bool) (n top : ℕ) (x : Specifier) → IsSpecifier text is_import last x → IsLoose text is_import n top x × ((is_something x || last) ≡ true)
  specifier_back is_import last n top x no_specifier = (inr refl, refl)
  specifier_back is_import last n top x (import_name {name = t} h) = (inl (((t, None), refl, (binding_is_name t.kind h, inr refl)), h), refl)
  specifier_back is_import last n top x (import_renamed {name = t} {word = w} {other = u} h g i) = (inl (((t, Some (w, u)), refl, (h, inl ((w, u), refl, (g, binding_is_name u.kind i)))), i), refl)
  specifier_back is_import last n top x (export_name {name = t} h) = (inl (((t, None), refl, (h, inr refl)), h), refl)
  specifier_back is_import last n top x (export_renamed {name = t} {word = w} {other = u} h g i) = (inl (((t, Some (w, u)), refl, (h, inl ((w, u), refl, (g, i)))), i), refl)

  filled_last : (x : Specifier) (os : List NextSpecifier) → are_filled (is_something x) os ≡ true → (is_something x || is_empty os) ≡ true
  filled_last x [] h = by_test (is_something x)
    where
      by_test : (b : Bool) → (b || true) ≡ true
      by_test true = refl
      by_test false = refl
  filled_last x (o ∷ os) h = by_test (is_something x) (first_of (is_something x) _ h)
    where
      by_test : (b : Bool) → b ≡ true → (b || false) ≡ true
      by_test true g = refl
      by_test false g = cc

  abbrev IsNext : Bool → ℕ → ℕ → NextSpecifier → Type 0
  IsNext is_import n top = (Nexts text is_import n top).Good

  rest_of : (is_import : Bool) (n top : ℕ) (x : Specifier) (os : List NextSpecifier) → AllByRecursion (IsNext is_import n top) os → are_filled (is_something x) os ≡ true → AreNextSpecifiers text is_import os
  rest_of is_import n top x [] good h = no_specifiers
  rest_of is_import n top x (o ∷ os) good h =
      let g = good.0 in
      let rest = second_of (is_something x) _ h in
      more_specifiers (ap (λ (q : NextSpecifier). q.comma.kind) g.1 ∙ g.2.0)
      (specifier_of is_import (is_empty os) n top o.specifier (subst (IsLoose text is_import n top) (sym (ap (λ (q : NextSpecifier). q.specifier) g.1)) g.2.1) (filled_last o.specifier os rest))
      (rest_of is_import n top o.specifier os good.1 rest)

  rest_back : (is_import : Bool) (n top : ℕ) (os : List NextSpecifier) → AreNextSpecifiers text is_import os → AllByRecursion (IsNext is_import n top) os
  rest_back is_import n top [] no_specifiers = tt
  rest_back is_import n top (o ∷ os) (more_specifiers h g i) = (((o.comma, o.specifier), refl, (h, (specifier_back is_import (is_empty os) n top o.specifier g).0)), rest_back is_import n top os i)

  filled_back : (is_import : Bool) (n top : ℕ) (x : Specifier) (os : List NextSpecifier) → (is_something x || is_empty os) ≡ true → AreNextSpecifiers text is_import os → are_filled (is_something x) os ≡ true
  filled_back is_import n top x [] placed h = refl
  filled_back is_import n top x (o ∷ os) placed (more_specifiers h g i) =
      and_of _ _ (by_test (is_something x) placed) (filled_back is_import n top o.specifier os (specifier_back is_import (is_empty os) n top o.specifier g).1 i)
    where
      by_test : (b : Bool) → (b || false) ≡ true → b ≡ true
      by_test true g = refl
      by_test false g = cc

  list_of : (is_import : Bool) (n top : ℕ) (x : Specifiers) → IsList text is_import n top x → AreSpecifiers text is_import x
  list_of is_import n top x h =
      let o = h.0.0 in
      let e = h.0.1 in
      let g = h.0.2 in
      let filled : are_filled (is_something o.1.0) o.1.1.0 ≡ true = subst (λ y. is_filled y ≡ true) e h.1 in
      subst (AreSpecifiers text is_import) (sym e)
      (record { begin = g.0; first = specifier_of is_import (is_empty o.1.1.0) n top o.1.0 g.1.0 (filled_last o.1.0 o.1.1.0 filled); rest = rest_of is_import n top o.1.0 o.1.1.0 g.1.1.0 filled; ending = g.1.1.1 })

  list_back : (is_import : Bool) (n top : ℕ) (x : Specifiers) → AreSpecifiers text is_import x → IsList text is_import n top x
  list_back is_import n top x h =
      let first = specifier_back is_import (is_empty x.rest) n top x.first h.first in
      (((x.begin, (x.first, (x.rest, x.ending))), refl, (h.begin, (first.0, (rest_back is_import n top x.rest h.rest, h.ending)))), filled_back is_import n top x.first x.rest first.1 h.rest)

-- specifiers in braces
pub specifiers_rule : (text : Text) (is_import : Bool) (n top : ℕ) → Rule text (specifier_lists (AreSpecifiers text is_import)) n top (λ _ _. true) (read.specifiers text is_import)
specifiers_rule text is_import n top =
    same_rule text (specifier_lists (IsList text is_import n top)) (specifier_lists (AreSpecifiers text is_import)) n top (λ _ _. true) (λ _ _. true) (read.specifiers text is_import) (list_rule text is_import n top) refl refl
    (list_of text is_import n top) (list_back text is_import n top) (λ x t good h. refl)

-- they begin with a brace
pub brace_first : (text : Text) (is_import : Bool) (x : Specifiers) (i j : ℕ) → AreSpecifiers text is_import x → SpelledBetween text i (tokens_of_specifiers x) j → behind text i ≡ x.begin
brace_first text is_import x i j good h = sees text i x.begin _ j h (ap (agrees goal.Div) good.begin)
