-- Kinds of token, and the goals under which they are read.
use Rattle.std.specs.Prelude.{Bool, true, false}
use denote.Enum.Bare.{sameb}
use Rattle.esb_token.specs.contracts.kind.Kind.{the_type}
use Rattle.esb_token.specs.declared.kind.Kind.{Kind}
use Rattle.esb_token.specs.declared.kind.Kind.TheVariants as k
use Rattle.esb_token.specs.declared.goal.Goal.{Goal}
use Rattle.esb_token.specs.declared.goal.Goal.TheVariants as goal

unfoldable pub same_kind : Kind → Kind → Bool
same_kind a b = sameb the_type a b

-- Whether a token of a kind is the same under a goal as under the goal of its kind. The end is none of a text's tokens.
abbrev pub agrees : Goal → Kind → Bool
agrees g k.End = false
agrees goal.Div k.RegExp = false
agrees goal.Div k.TemplateMiddle = false
agrees goal.Div k.TemplateTail = false
agrees goal.RegExp k.Slash = false
agrees goal.RegExp k.SlashAssign = false
agrees goal.RegExp k.TemplateMiddle = false
agrees goal.RegExp k.TemplateTail = false
agrees goal.TemplateTail k.RegExp = false
agrees goal.TemplateTail k.RightBrace = false
agrees g _ = true
