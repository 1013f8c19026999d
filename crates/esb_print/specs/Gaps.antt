-- Between which tokens of a printed line a space stands.
use Rattle.std.specs.Prelude.{Bool, true, false, not, ◌&&◌, ◌||◌}
use Rattle.esb_token.specs.declared.kind.Kind.{Kind}
use Rattle.esb_token.specs.declared.kind.Kind.TheVariants as k

-- tokens with no space behind them: `(`, `[`, `.`, `?.`, `...`, and a part of a template that ends in `${`
abbrev pub opens : Kind → Bool
opens k.LeftParenthesis = true
opens k.LeftBracket = true
opens k.Dot = true
opens k.QuestionDot = true
opens k.Ellipsis = true
opens k.TemplateHead = true
opens k.TemplateMiddle = true
opens _ = false

-- tokens with no space before them: `)`, `]`, `;`, `,`, `:`, and a part of a template that begins with `}`
abbrev pub closes : Kind → Bool
closes k.RightParenthesis = true
closes k.RightBracket = true
closes k.Semicolon = true
closes k.Comma = true
closes k.Colon = true
closes k.TemplateMiddle = true
closes k.TemplateTail = true
closes _ = false

-- `.` and `?.`, which stand directly behind anything but a number
abbrev pub is_link : Kind → Bool
is_link k.Dot = true
is_link k.QuestionDot = true
is_link _ = false

-- a NumericLiteral (ECMA-262, 11.8.3)
abbrev pub is_number : Kind → Bool
is_number k.Number = true
is_number k.BigInt = true
is_number _ = false

-- `(` and `[`, which stand directly behind some tokens
abbrev pub begins_list : Kind → Bool
begins_list k.LeftParenthesis = true
begins_list k.LeftBracket = true
begins_list _ = false

-- the tokens behind which they do: `)`, `]`, an identifier that isn't reserved, `import`, `super` and `this`
abbrev pub takes_list : Kind → Bool
takes_list k.RightParenthesis = true
takes_list k.RightBracket = true
takes_list k.Name = true
takes_list k.Import = true
takes_list k.Super = true
takes_list k.This = true
takes_list _ = false

abbrev pub is_joined : Kind → Kind → Bool
is_joined p n = opens p || closes n || (is_link n && not (is_number p)) || (begins_list n && takes_list p)

-- whether a space stands between a token of the one kind and a token of the other behind it
unfoldable pub has_gap : Kind → Kind → Bool
has_gap p n = not (is_joined p n)
