-- The tokens by which module items and their parts are told apart, and at which they end (ECMA-262, 15.2).
use Rattle.std.specs.Prelude.{ℕ, Bool, true, false, not, ◌&&◌, ◌||◌, if◌then◌else◌, codes}
use Rattle.esb_token.specs.declared.kind.Kind.{Kind}
use Rattle.esb_token.specs.declared.kind.Kind.TheVariants as k
use Rattle.esb_token.specs.declared.token.Token.{Token}
use Rattle.esb_grammar.specs.Kinds.{is_binding, is_identifier_name, is_function, is_class, is_end}
use Rattle.esb_grammar.specs.Words.{is_word, is_async}
use Rattle.esb_reader.specs.Places.{Text}
use Rattle.esb_reader.specs.Parts.{behind}
use Rattle.esb_statement_laws.specs.Marks.{begins_item}
use Rattle.esb_module_laws.specs.declared.item_sort.ItemSort.{ItemSort}
use Rattle.esb_module_laws.specs.declared.item_sort.ItemSort.TheVariants as o

abbrev pub is_as : Text → Token → Bool
is_as text t = is_word text (codes "as") t

abbrev pub is_from : Text → Token → Bool
is_from text t = is_word text (codes "from") t

-- ---- specifiers

-- which end a specifier
abbrev pub ends_specifier : Kind → Bool
ends_specifier k.Comma = true
ends_specifier k.RightBrace = true
ends_specifier _ = false

-- The name that a specifier ends with: an import binds it, and an export may give it any.
abbrev pub is_given : Bool → Kind → Bool
is_given true kind = is_binding kind
is_given false kind = is_identifier_name kind

-- ---- items

-- which follow an item: those with which the next may begin, and the end
abbrev pub follows_item : Kind → Bool
follows_item kind = begins_item kind || is_end kind

-- by what stands behind `import`: with `(` or `.` it is an expression
abbrev pub import_sort : Kind → ItemSort
import_sort k.LeftParenthesis = o.Statement
import_sort k.Dot = o.Statement
import_sort k.Text = o.ImportModule
import_sort _ = o.Import

-- by two tokens behind `export default`
abbrev pub default_sort : Text → Token → Token → ItemSort
default_sort text t u =
    if is_class t.kind then o.DefaultClass
    else if is_function t.kind || (is_async text t && (is_function u.kind && not u.after_line)) then o.DefaultFunction
    else o.DefaultValue

-- by three tokens behind `export`
abbrev pub export_sort : Text → Kind → Token → Token → ItemSort
export_sort text k.Star t u = o.ExportAll
export_sort text k.LeftBrace t u = o.ExportNames
export_sort text k.Default t u = default_sort text t u
export_sort text _ t u = o.ExportDeclaration

abbrev pub item_sort_by : Text → Kind → Token → Token → Token → ItemSort
item_sort_by text k.Import s t u = import_sort s.kind
item_sort_by text k.Export s t u = export_sort text s.kind t u
item_sort_by text _ s t u = o.Statement

-- by its first four tokens
unfoldable pub item_sort_of : Text → Token → Token → Token → Token → ItemSort
item_sort_of text first s t u = item_sort_by text first.kind s t u

-- the place behind the token that is seen at a place
abbrev pub beyond : Text → ℕ → ℕ
beyond text i = (behind text i).end

-- at a place of a text
abbrev pub item_sort_at : Text → ℕ → ItemSort
item_sort_at text i = item_sort_of text (behind text i) (behind text (beyond text i)) (behind text (beyond text (beyond text i))) (behind text (beyond text (beyond text (beyond text i))))
