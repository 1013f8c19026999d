-- Which tokens end the body of an arrow function.
use Rattle.std.specs.Prelude.{Bool}
use Rattle.esb_token.specs.declared.token.Token.{Token}
use Rattle.esb_tree.specs.declared.functions.ConciseBody.{ConciseBody}
use Rattle.esb_grammar.specs.declared.context.Context.{Context}
use Rattle.esb_grammar.specs.Edges.{body_ends_assignment}
use Rattle.esb_operator_laws.specs.Postfix.{body_ends_postfix}
use Rattle.esb_assignment_laws.specs.Values.{ends_by}

-- What ends the body of an arrow function.
abbrev pub ends_body : Context → ConciseBody → Token → Bool
ends_body c x t = ends_by c (body_ends_assignment x) (body_ends_postfix x) t
