-- Statements are read exactly.
use Rattle.std.specs.Prelude.{ℕ, suc, ◌<◌, Bool}
use Rattle.esb_grammar.specs.declared.context.Context.{Context}
use Rattle.esb_grammar.specs.Edges.{takes_else}
use Rattle.esb_grammar.specs.Grammar.{IsItem}
use Rattle.esb_reader.specs.Places.{Text}
use Rattle.esb_reader.specs.Stands.{Rule, row}
use Rattle.esb_statement_laws.specs.Sequels.{Keeps}
use Rattle.esb_statement_laws.specs.Marks.{nearest, statement_stops, ends_items}
use Rattle.esb_statement_laws.specs.Handed.{Handed, statements}
use Rattle.esb_statement_laws.specs.Exact.{ExactParts, Exact}
use Rattle.esb_statement_laws.specs.Items.{IsAllowed, statement, items}
use Rattle.esb_statement_laws.specs.Within.{handed, ItemsExact}

-- Where its parts are read exactly, so is each Statement, and each StatementListItem where declarations may stand. It stops before
-- each token that may follow a statement, but for an `else` that an `if` in it takes.
abbrev pub StatementRule : Type 0
StatementRule =
    (text : Text) (c : Context) (n : ℕ) (r : Handed) (declarations : Bool) → Exact text c n r
    → Rule text (statements (IsAllowed declarations text c)) n (suc n) statement_stops (statement text c n r declarations)

-- and no `else` is left behind one that an `if` in it could take
abbrev pub NearestIf : Type 0
NearestIf = (text : Text) (c : Context) (n : ℕ) (r : Handed) (declarations : Bool) → Exact text c n r → Keeps text (λ x. nearest (takes_else x)) (statement text c n r declarations)

-- so are lists of them, up to a token that ends one
abbrev pub ItemsRule : Type 0
ItemsRule =
    (text : Text) (c : Context) (n : ℕ) (r : Handed) → Exact text c n r
    → Rule text (row (statements (IsItem text c))) n (suc n) (λ _ t. ends_items t.kind) (items text c n r)

-- Level by level: where lists of statements that are read exactly within all lower levels make the parts of each level be read so, lists are
-- read exactly within each level.
abbrev pub LevelsRule : Type 0
LevelsRule =
    (text : Text) (parts : ℕ → Handed) → ((n : ℕ) → ((m : ℕ) → m < n → ItemsExact text parts m) → (c : Context) → ExactParts text c n (handed text parts n))
    → (n : ℕ) → ItemsExact text parts n
