-- Templates in their parts (ECMA-262, 11.8.6).
use Rattle.std.specs.Prelude.{ℕ, ◌+◌, ◌&&◌, if◌then◌else◌, ◌==◌, List, [], ◌∷◌, length, drop, slice_index, Some, None}
use Rattle.esb_token.specs.declared.kind.Kind.{Kind}
use Rattle.esb_token.specs.Names.{Piece}
use Rattle.esb_token.specs.Runs.{run}

-- a byte of a template's text, or a backslash with the byte that it escapes; 0 before a "`" and before a `${`.
-- What an escape stands for is not looked at here, since a tagged template may have any.
unfoldable pub template_piece : List ℕ → ℕ
template_piece [] = 0
template_piece (b ∷ rest) =
    if b == 96 then 0
    else if b == 36 then (if slice_index rest 0 == 123 then 0 else 1)
    else if b == 92 then (if length rest == 0 then 0 else 2)
    else 1

-- a part of a template from its "`" or `}`, of one kind where a "`" ends it and of the other where a `${` does
unfoldable pub template : Kind → Kind → List ℕ → Piece
template closed opened text =
    let body = run template_piece (drop 1 text) in
    if slice_index text (1 + body) == 96 then Some (closed, body + 2)
    else if slice_index text (1 + body) == 36 && slice_index text (2 + body) == 123 then Some (opened, body + 3)
    else None
