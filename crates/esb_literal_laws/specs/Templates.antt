-- Template literals with substitutions (ECMA-262, 12.2.9). Their later parts are read under a goal of their own.
use Rattle.std.specs.Prelude.{ℕ, Bool, true, false, List}
use Rattle.esb_token.specs.declared.kind.Kind.{Kind}
use Rattle.esb_token.specs.declared.kind.Kind.TheVariants as k
use Rattle.esb_token.specs.declared.token.Token.{Token}
use Rattle.esb_token.specs.declared.goal.Goal.TheVariants as goal
use Rattle.esb_tree.specs.declared.expressions.Expression.{Expression}
use Rattle.esb_tree.specs.declared.expressions.Substitution.{Substitution, roll-Substitution}
use Rattle.esb_tree.specs.declared.expressions.Substitutions.{Substitutions, roll-Substitutions}
use Rattle.esb_reader.specs.declared.node.Node.{Node}
use Rattle.esb_reader.specs.Places.{Text, peek}
use Rattle.esb_reader.specs.Reader.{Reader}
use Rattle.esb_reader.specs.Parts.{token, token_in, both, made}
use Rattle.esb_literal_laws.specs.Forks.{items}

abbrev pub is_middle : Kind → Bool
is_middle k.TemplateMiddle = true
is_middle _ = false

abbrev pub is_ending : Kind → Bool
is_ending k.TemplateTail = true
is_ending _ = false

-- whether a further part of a template stands at a place
unfoldable pub at_middle : Text → ℕ → Bool
at_middle text i = is_middle (peek text goal.TemplateTail i).kind

abbrev pub make_substitution : Token × Expression → Substitution
make_substitution p = roll-Substitution (record { middle = p.0; value = p.1 })

abbrev pub make_template : (Token × Expression) × (List Substitution × Token) → Substitutions
make_template p = roll-Substitutions (record { head = p.0.0; first = p.0.1; rest = p.1.0; tail = p.1.1 })

-- ---- the readers, where `inner` reads an Expression

module _ (text : Text) (inner : Reader (Node Expression)) where
  unfoldable pub substitution : Reader (Node Substitution)
  substitution = made make_substitution 0 (both (token_in text goal.TemplateTail (λ t. is_middle t.kind)) inner)

  unfoldable pub substitutions : Reader (Node (List Substitution))
  substitutions = items text (at_middle text) substitution

  unfoldable pub template : Reader (Node Substitutions)
  template = made make_template 0 (both (both (token text k.TemplateHead) inner) (both substitutions (token_in text goal.TemplateTail (λ t. is_ending t.kind))))
