-- What the lexer takes at the front of a text is a token by the grammar.
use Rattle.std.proofs.Common.{◌≡◌, ℕ, Bool, true, ◌&&◌, ◌||◌, eqb, nat_lt, List, [], ◌∷◌, drop, slice_index, Some, None, refl, sym, subst}
use Rattle.std.proofs.lemmas.Bool.{eqb-true}
use Rattle.esb_token.specs.declared.kind.Kind.{Kind}
use Rattle.esb_token.specs.declared.kind.Kind.TheVariants as k
use Rattle.esb_token.specs.declared.goal.Goal.{Goal}
use Rattle.esb_token.specs.declared.goal.Goal.TheVariants as goal
use Rattle.esb_token.specs.Goals.{is_division}
use Rattle.esb_token.specs.Characters.{is_digit}
use Rattle.esb_token.specs.Names.{Piece, name, identifier_start}
use Rattle.esb_token.specs.Numbers.{number, numeric}
use Rattle.esb_token.specs.Strings.{string}
use Rattle.esb_token.specs.Templates.{template}
use Rattle.esb_token.specs.Punctuators.{punctuator}
use Rattle.esb_token.specs.Tokens.{division, slash, right_brace, or_else, punctuator_or_name, token}
use Rattle.esb_token.specs.Grammar.{IsToken, is_under}
use Rattle.esb_token.proofs.KindsGiven.{Gives, is_ordinary, division_kind, punctuator_ordinary}
use Rattle.esb_token.proofs.Sound.{AllStand, none_stand, some_stand, cond_stand, name_stands, string_stands, begin_stands, tail_stands, regexp_stands}
use Rattle.esb_token.proofs.SoundMarks.{AllMarks, punctuator_marks, division_marks}
use Rattle.esb_token.proofs.SoundFigures.{numeric_number}

ordinary_under : (g : Goal) (kind : Kind) → is_ordinary kind ≡ true → is_under g kind ≡ true
ordinary_under goal.Div kind h = refl
ordinary_under goal.RegExp k.Slash h = cc
ordinary_under goal.RegExp k.SlashAssign h = cc
ordinary_under goal.RegExp _ h = refl
ordinary_under goal.TemplateTail k.RightBrace h = cc
ordinary_under goal.TemplateTail _ h = refl

division_under : (kind : Kind) → is_division kind ≡ true → is_under goal.TemplateTail kind ≡ true
division_under k.RightBrace h = cc
division_under _ h = refl

marks_stand : (g : Goal) (text : List ℕ) (piece : Piece) (test : Kind → Bool) → AllMarks text piece → Gives test piece → ((kind : Kind) → test kind ≡ true → is_under g kind ≡ true) → AllStand g text piece
unfolding AllMarks AllStand
marks_stand g text piece test marks gives under p e =
    let m = marks p e in
    record { bytes = m.bytes; after = m.after; split = m.split; size = m.size; stands = IsToken.punctuator p.0 m.bytes m.after m.entry m.may (under p.0 (gives p e)) }

or_stand : (g : Goal) (text : List ℕ) (x y : Piece) → AllStand g text x → AllStand g text y → AllStand g text (or_else x y)
or_stand g text None y hx hy = hy
or_stand g text (Some p) y hx hy = hx

slash_stands : (g : Goal) (rest : List ℕ) → AllStand g (47 ∷ rest) (slash g (47 ∷ rest))
unfolding slash
slash_stands goal.Div rest = marks_stand goal.Div (47 ∷ rest) (division (47 ∷ rest)) is_division (division_marks rest) (division_kind (47 ∷ rest)) (λ kind h. refl)
slash_stands goal.RegExp rest = regexp_stands rest
slash_stands goal.TemplateTail rest = marks_stand goal.TemplateTail (47 ∷ rest) (division (47 ∷ rest)) is_division (division_marks rest) (division_kind (47 ∷ rest)) division_under

brace_stands : (g : Goal) (rest : List ℕ) → AllStand g (125 ∷ rest) (right_brace g (125 ∷ rest))
unfolding right_brace
brace_stands goal.Div rest = some_stand goal.Div (125 ∷ rest) (k.RightBrace, 1) (record { bytes = 125 ∷ []; after = rest; split = refl; size = refl; stands = IsToken.punctuator k.RightBrace (125 ∷ []) rest refl refl refl })
brace_stands goal.RegExp rest = some_stand goal.RegExp (125 ∷ rest) (k.RightBrace, 1) (record { bytes = 125 ∷ []; after = rest; split = refl; size = refl; stands = IsToken.punctuator k.RightBrace (125 ∷ []) rest refl refl refl })
brace_stands goal.TemplateTail rest = tail_stands rest

number_stands : (g : Goal) (b : ℕ) (rest : List ℕ) → (is_digit b || (eqb b 46 && is_digit (slice_index rest 0))) ≡ true → AllStand g (b ∷ rest) (number (b ∷ rest))
unfolding number
number_stands g b rest starts =
    let text = b ∷ rest in
    let n = numeric_number b rest starts in
    cond_stand g text (is_digit (slice_index (drop (numeric text).1 text) 0) || nat_lt 0 (identifier_start (drop (numeric text).1 text))) None (Some (numeric text)) (λ _. none_stand g text)
    (λ _. some_stand g text (numeric text) (record { bytes = n.bytes; after = n.after; split = n.split; size = n.size; stands = IsToken.number (numeric text).0 n.bytes n.after n.numeric }))

at_byte : (P : ℕ → Type 0) (b c : ℕ) → eqb b c ≡ true → P c → P b
at_byte P b c e h = subst P (sym (eqb-true b c e)) h

pub token_stands : (g : Goal) (b : ℕ) (rest : List ℕ) → AllStand g (b ∷ rest) (token g (b ∷ rest))
unfolding token
token_stands g b rest =
    let text = b ∷ rest in
    cond_stand g text (eqb b 47) (slash g text) _ (λ e. at_byte (λ x. AllStand g (x ∷ rest) (slash g (x ∷ rest))) b 47 e (slash_stands g rest))
    (λ _. cond_stand g text (eqb b 125) (right_brace g text) _ (λ e. at_byte (λ x. AllStand g (x ∷ rest) (right_brace g (x ∷ rest))) b 125 e (brace_stands g rest))
    (λ _. cond_stand g text (eqb b 96) (template k.TemplateWhole k.TemplateHead text) _ (λ e. at_byte (λ x. AllStand g (x ∷ rest) (template k.TemplateWhole k.TemplateHead (x ∷ rest))) b 96 e (begin_stands g rest))
    (λ _. cond_stand g text (eqb b 34 || eqb b 39) (string text) _ (λ e. string_stands g b rest e)
    (λ _. cond_stand g text (is_digit b || (eqb b 46 && is_digit (slice_index rest 0))) (number text) (punctuator_or_name text) (λ e. number_stands g b rest e)
    (λ _. or_stand g text (punctuator text) (name text) (marks_stand g text (punctuator text) is_ordinary (punctuator_marks b rest) (punctuator_ordinary text) (ordinary_under g)) (name_stands g text))))))
