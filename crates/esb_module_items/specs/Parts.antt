-- Parts of items that a function of its own reads.
use Rattle.std.specs.Prelude.{◌≡◌, Bool, List, Option, Some, None, Result, Ok, Err}
use Rattle.esb_token.specs.declared.kind.Kind.TheVariants as k
use Rattle.esb_token.specs.declared.token.Token.{Token}
use Rattle.esb_tree.specs.declared.modules.NextSpecifier.{NextSpecifier}
use Rattle.esb_tree.specs.declared.modules.Tree.{Tree}
use Rattle.esb_grammar.specs.Kinds.{is_comma}
use Rattle.esb_reader.specs.declared.fault.Fault.{Fault}
use Rattle.esb_reader.specs.declared.fault.Fault.TheVariants as fault
use Rattle.esb_reader.specs.declared.node.Node.{Node}
use Rattle.esb_reader.specs.Places.{Text}
use Rattle.esb_reader.specs.Reader.{Reader}
use Rattle.esb_reader.specs.Parts.{token, both, optional, many}
use Rattle.esb_module_laws.specs.declared.imported.Imported.{Imported}
use Rattle.esb_module_laws.specs.Marks.{is_as, is_from}
use Rattle.esb_module_laws.specs.Specifiers.{renaming, next_specifier, imported}
use Rattle.esb_module_laws.specs.Items.{from_clause}

-- `as` and a name, or nothing
unfoldable pub maybe_renaming : Text → Reader (Node (Option (Token × Token)))
maybe_renaming text = optional text (is_as text) (renaming text)

-- the specifiers behind the first
unfoldable pub next_specifiers : Text → Bool → Reader (Node (List NextSpecifier))
next_specifiers text is_import = many text (λ t. is_comma t.kind) (next_specifier text is_import)

-- and the brace behind them
unfoldable pub rest_of : Text → Bool → Reader (Node (List NextSpecifier × Token))
rest_of text is_import = both (next_specifiers text is_import) (token text k.RightBrace)

-- `from` and a string, or nothing
unfoldable pub maybe_from : Text → Reader (Node (Option (Token × Token)))
maybe_from text = optional text (is_from text) (from_clause text)

-- a comma and what it separates from a default, or nothing
unfoldable pub behind_default : Text → Reader (Node (Option (Token × Imported)))
behind_default text = optional text (λ t. is_comma t.kind) (both (token text k.Comma) (imported text))

-- what a function returned is what is read of a text, unless memory ran out
abbrev pub GivesTree : Result Tree Fault → Option Tree → Type 0
GivesTree (Ok tree) found = found ≡ Some tree
GivesTree (Err (fault.NoTree at)) found = found ≡ None
GivesTree (Err fault.Memory) found = Unit {0}
