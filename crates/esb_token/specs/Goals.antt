-- The goal symbol under which a token of each kind is read.
use Rattle.std.specs.Prelude.{Bool, true, false}
use Rattle.esb_token.specs.declared.kind.Kind.{Kind}
use Rattle.esb_token.specs.declared.kind.Kind.TheVariants as k
use Rattle.esb_token.specs.declared.goal.Goal.{Goal}
use Rattle.esb_token.specs.declared.goal.Goal.TheVariants as goal

abbrev pub goal_of : Kind → Goal
goal_of k.RegExp = goal.RegExp
goal_of k.TemplateMiddle = goal.TemplateTail
goal_of k.TemplateTail = goal.TemplateTail
goal_of _ = goal.Div

-- kinds that no `/` begins
abbrev pub is_other_than_slash : Kind → Bool
is_other_than_slash k.RegExp = false
is_other_than_slash k.Slash = false
is_other_than_slash k.SlashAssign = false
is_other_than_slash _ = true

-- kinds that no `}` begins
abbrev pub is_other_than_brace : Kind → Bool
is_other_than_brace k.RightBrace = false
is_other_than_brace k.TemplateMiddle = false
is_other_than_brace k.TemplateTail = false
is_other_than_brace _ = true

abbrev pub is_division : Kind → Bool
is_division k.Slash = true
is_division k.SlashAssign = true
is_division _ = false

-- a later part of a template
abbrev pub is_tail : Kind → Bool
is_tail k.TemplateMiddle = true
is_tail k.TemplateTail = true
is_tail _ = false
