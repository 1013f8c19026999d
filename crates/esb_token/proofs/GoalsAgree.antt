-- What the goals have in common.
use Rattle.std.proofs.Common.{◌≡◌, ℕ, Bool, true, false, cond, ◌&&◌, ◌||◌, eqb, List, [], ◌∷◌, slice_index, Some, refl}
use Rattle.esb_token.specs.declared.kind.Kind.{Kind}
use Rattle.esb_token.specs.declared.kind.Kind.TheVariants as k
use Rattle.esb_token.specs.declared.goal.Goal.{Goal}
use Rattle.esb_token.specs.declared.goal.Goal.TheVariants as goal
use Rattle.esb_token.specs.Goals.{is_other_than_slash, is_other_than_brace, is_division, is_tail}
use Rattle.esb_token.specs.Characters.{is_digit}
use Rattle.esb_token.specs.Names.{Piece}
use Rattle.esb_token.specs.Numbers.{number}
use Rattle.esb_token.specs.Strings.{string}
use Rattle.esb_token.specs.Templates.{template}
use Rattle.esb_token.specs.RegExps.{regular_expression}
use Rattle.esb_token.specs.Tokens.{division, slash, right_brace, punctuator_or_name, token}
use Rattle.esb_token.proofs.KindsGiven.{Gives, is_ordinary, is_text, is_regexp, gives_some, gives_cond, gives_either, punctuator_ordinary, name_ordinary, number_ordinary, string_text, template_kind, regular_expression_kind, division_kind}

-- what the token that begins with no `/` and no `}` is, which no goal decides
unfoldable pub rest_of : ℕ → List ℕ → Piece
rest_of b rest =
    cond (eqb b 96) (template k.TemplateWhole k.TemplateHead (b ∷ rest))
    (cond (eqb b 34 || eqb b 39) (string (b ∷ rest))
    (cond (is_digit b || (eqb b 46 && is_digit (slice_index rest 0))) (number (b ∷ rest)) (punctuator_or_name (b ∷ rest))))

-- weakening of a test of kinds
weaker : (p q : Kind → Bool) (piece : Piece) → ((kind : Kind) → p kind ≡ true → q kind ≡ true) → Gives p piece → Gives q piece
weaker p q piece f h x e = f x.0 (h x e)

ordinary-other : (kind : Kind) → is_ordinary kind ≡ true → is_other_than_slash kind ≡ true
ordinary-other k.RegExp h = cc
ordinary-other k.Slash h = cc
ordinary-other k.SlashAssign h = cc
ordinary-other _ h = refl

abbrev pub is_plain : Kind → Bool
is_plain k.RegExp = false
is_plain k.Slash = false
is_plain k.SlashAssign = false
is_plain k.TemplateMiddle = false
is_plain k.TemplateTail = false
is_plain k.RightBrace = false
is_plain k.End = false
is_plain _ = true

ordinary-plain : (kind : Kind) → is_ordinary kind ≡ true → is_plain kind ≡ true
ordinary-plain k.End h = cc
ordinary-plain k.RegExp h = cc
ordinary-plain k.TemplateMiddle h = cc
ordinary-plain k.TemplateTail h = cc
ordinary-plain k.Slash h = cc
ordinary-plain k.SlashAssign h = cc
ordinary-plain k.RightBrace h = cc
ordinary-plain _ h = refl

text-plain : (kind : Kind) → is_text kind ≡ true → is_plain kind ≡ true
text-plain k.Text h = refl
text-plain _ h = cc

pub rest_plain : (b : ℕ) (rest : List ℕ) → Gives is_plain (rest_of b rest)
unfolding rest_of
rest_plain b rest =
    gives_cond is_plain _ _ _ (template_kind is_plain k.TemplateWhole k.TemplateHead (b ∷ rest) refl refl)
    (gives_cond is_plain _ _ _ (weaker is_text is_plain _ text-plain (string_text (b ∷ rest)))
    (gives_cond is_plain _ _ _ (weaker is_ordinary is_plain _ ordinary-plain (number_ordinary (b ∷ rest)))
    (weaker is_ordinary is_plain _ ordinary-plain (gives_either is_ordinary _ _ (punctuator_ordinary (b ∷ rest)) (name_ordinary (b ∷ rest))))))

token_is : (g : Goal) (b : ℕ) (rest : List ℕ) → token g (b ∷ rest) ≡ cond (eqb b 47) (slash g (b ∷ rest)) (cond (eqb b 125) (right_brace g (b ∷ rest)) (rest_of b rest))
unfolding token rest_of
token_is g b rest = refl

-- ---- one goal against another, at the front of a text

abbrev pub Same : (Kind → Bool) → Piece → Piece → Type 0
Same test x y = (p : Kind × ℕ) → x ≡ Some p → test p.0 ≡ true → y ≡ Some p

same_all : (test : Kind → Bool) (x : Piece) → Same test x x
same_all test x p h e = h

-- where the first gives no such kind
same_never : (test other : Kind → Bool) (x y : Piece) → Gives other x → ((kind : Kind) → other kind ≡ true → test kind ≡ true → ⊥) → Same test x y
same_never test other x y gives apart p h e = absurd (apart p.0 (gives p h) e)

same_cond : (test : Kind → Bool) (t : Bool) (x y u v : Piece) → Same test x u → Same test y v → Same test (cond t x y) (cond t u v)
same_cond test true x y u v hx hy = hx
same_cond test false x y u v hx hy = hy

regexp-apart : (kind : Kind) → is_regexp kind ≡ true → is_other_than_slash kind ≡ true → ⊥
regexp-apart k.RegExp h e = cc
regexp-apart _ h e = cc

division-apart : (kind : Kind) → is_division kind ≡ true → is_other_than_slash kind ≡ true → ⊥
division-apart k.Slash h e = cc
division-apart k.SlashAssign h e = cc
division-apart _ h e = cc

slash_never : (g : Goal) (text : List ℕ) (y : Piece) → Same is_other_than_slash (slash g text) y
unfolding slash
slash_never goal.Div text y = same_never is_other_than_slash is_division (division text) y (division_kind text) division-apart
slash_never goal.RegExp text y = same_never is_other_than_slash is_regexp (regular_expression text) y (regular_expression_kind text) regexp-apart
slash_never goal.TemplateTail text y = same_never is_other_than_slash is_division (division text) y (division_kind text) division-apart

-- under Div and RegExp, what begins with no `/` is the same
pub token-DivRegExp : (text : List ℕ) → Same is_other_than_slash (token goal.Div text) (token goal.RegExp text)
unfolding token right_brace
token-DivRegExp [] = same_all is_other_than_slash _
token-DivRegExp (b ∷ rest) = same_cond is_other_than_slash (eqb b 47) _ _ _ _ (slash_never goal.Div (b ∷ rest) _) (same_all is_other_than_slash _)

pub token-RegExpDiv : (text : List ℕ) → Same is_other_than_slash (token goal.RegExp text) (token goal.Div text)
unfolding token right_brace
token-RegExpDiv [] = same_all is_other_than_slash _
token-RegExpDiv (b ∷ rest) = same_cond is_other_than_slash (eqb b 47) _ _ _ _ (slash_never goal.RegExp (b ∷ rest) _) (same_all is_other_than_slash _)

-- under Div and TemplateTail, what begins with no `}`
brace-apart : (kind : Kind) → is_tail kind ≡ true → is_other_than_brace kind ≡ true → ⊥
brace-apart k.TemplateMiddle h e = cc
brace-apart k.TemplateTail h e = cc
brace-apart _ h e = cc

brace_never : (g : Goal) (text : List ℕ) (y : Piece) → Same is_other_than_brace (right_brace g text) y
unfolding right_brace
brace_never goal.TemplateTail text y = same_never is_other_than_brace is_tail _ y (template_kind is_tail k.TemplateTail k.TemplateMiddle text refl refl) brace-apart
brace_never _ text y = same_never is_other_than_brace (λ kind. is_right_brace kind) _ y (gives_some is_right_brace _ refl) right-apart
  where
    is_right_brace : Kind → Bool
    is_right_brace k.RightBrace = true
    is_right_brace _ = false

    right-apart : (kind : Kind) → is_right_brace kind ≡ true → is_other_than_brace kind ≡ true → ⊥
    right-apart k.RightBrace h e = cc
    right-apart _ h e = cc

pub token-DivTail : (text : List ℕ) → Same is_other_than_brace (token goal.Div text) (token goal.TemplateTail text)
unfolding token slash
token-DivTail [] = same_all is_other_than_brace _
token-DivTail (b ∷ rest) = same_cond is_other_than_brace (eqb b 47) _ _ _ _ (same_all is_other_than_brace _) (same_cond is_other_than_brace (eqb b 125) _ _ _ _ (brace_never goal.Div (b ∷ rest) _) (same_all is_other_than_brace _))

pub token-TailDiv : (text : List ℕ) → Same is_other_than_brace (token goal.TemplateTail text) (token goal.Div text)
unfolding token slash
token-TailDiv [] = same_all is_other_than_brace _
token-TailDiv (b ∷ rest) = same_cond is_other_than_brace (eqb b 47) _ _ _ _ (same_all is_other_than_brace _) (same_cond is_other_than_brace (eqb b 125) _ _ _ _ (brace_never goal.TemplateTail (b ∷ rest) _) (same_all is_other_than_brace _))
