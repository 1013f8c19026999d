-- The semicolon at the end of a statement, where it is known whether it may be left out.
use Rattle.std.specs.Prelude.{Bool, Option, Some, None}
use Rattle.esb_token.specs.declared.kind.Kind.TheVariants as k
use Rattle.esb_token.specs.declared.token.Token.{Token}
use Rattle.esb_grammar.specs.Kinds.{is_semicolon}
use Rattle.esb_reader.specs.declared.node.Node.{Node}
use Rattle.esb_reader.specs.Places.{Text}
use Rattle.esb_reader.specs.Reader.{Reader}
use Rattle.esb_reader.specs.Parts.{token, made, choice, empty}
use Rattle.esb_statement_laws.specs.Sequels.{at_place}

unfoldable pub ending_if : Text → Bool → Reader (Node (Option Token))
ending_if text may = choice text (λ t. is_semicolon t.kind) (made Some 0 (token text k.Semicolon)) (at_place (λ i. may) (empty None))
