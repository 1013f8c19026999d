-- What may stand in a list of each form (ECMA-262, 12.2.5, 12.2.6, 12.2.10, 12.3.8, 13.3, 14.1).
use Rattle.std.specs.Prelude.{Bool, true, false, List, [], ◌∷◌}
use Rattle.esb_token.specs.declared.kind.Kind.{Kind}
use Rattle.esb_token.specs.declared.kind.Kind.TheVariants as k
use Rattle.esb_grammar.specs.declared.form.Form.{Form}
use Rattle.esb_grammar.specs.declared.form.Form.TheVariants as f

-- the token before the list
abbrev pub opener : Form → Kind
opener f.Array = k.LeftBracket
opener f.ArrayPattern = k.LeftBracket
opener f.Object = k.LeftBrace
opener f.ObjectPattern = k.LeftBrace
opener _ = k.LeftParenthesis

-- the token behind it
abbrev pub closer : Form → Kind
closer f.Array = k.RightBracket
closer f.ArrayPattern = k.RightBracket
closer f.Object = k.RightBrace
closer f.ObjectPattern = k.RightBrace
closer _ = k.RightParenthesis

-- Whether nothing may stand in a place, which is the last one or not: in arrays everywhere, in other lists behind a last
-- comma or in place of all elements, and in parentheses and in declarations nowhere.
abbrev pub takes_hole : Form → Bool → Bool
takes_hole f.Array last = true
takes_hole f.ArrayPattern last = true
takes_hole f.Values last = false
takes_hole f.Bindings last = false
takes_hole _ last = last

-- an expression
abbrev pub takes_value : Form → Bool
takes_value f.Values = true
takes_value f.Arguments = true
takes_value f.Array = true
takes_value _ = false

-- `...` and an expression
abbrev pub takes_spread : Form → Bool
takes_spread f.Arguments = true
takes_spread f.Array = true
takes_spread f.Object = true
takes_spread _ = false

-- a name or a pattern that may have a default
abbrev pub takes_binding : Form → Bool
takes_binding f.Parameters = true
takes_binding f.ArrayPattern = true
takes_binding _ = false

abbrev pub is_empty : {A : Type 0} → List A → Bool
is_empty [] = true
is_empty (x ∷ xs) = false
