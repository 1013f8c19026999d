-- The values of a reply are right but for sizes.
use Rattle.std.proofs.Common.{◌≡◌, ℕ, suc, ◌^◌, ◌<◌, Bool, true, ◌&&◌, ltb, List, [], ◌∷◌, All, refl, lit≤}
use Rattle.std.specs.Prelude.{IsUtf8, codes}
use Rattle.std.specs.Str.{IsAscii}
use Rattle.std.proofs.lemmas.Bool.{and_parts, ltb-true}
use Rattle.std.proofs.lemmas.List.Elements.{recursion_from_All}
use Rattle.std.proofs.lemmas.Str.{IsUtf8-from_ascii}
use Rattle.std.proofs.lemmas.Str.Ascii.{IsAscii-nil, IsAscii-cons}
use Rattle.esb_wire.specs.declared.value.Value.{Value}
use Rattle.esb_wire.specs.declared.value.Value.TheOpen.{Value-F}
use Rattle.esb_wire.specs.declared.value.Value.TheVariants as v
use Rattle.esb_wire.specs.Size.{IsShaped}
use Rattle.esb_wire.proofs.Sizes.{shaped_at, IsShaped-deeper}
use Rattle.esb_wire.proofs.Values.{IsDistinct-from_test}
use Rattle.esb_ask.specs.declared.message.Message.{Message}
use Rattle.esb_ask.specs.declared.outcome.OutFile.{OutFile}
use Rattle.esb_reply.specs.Reply.{error_value, message_value, file_value, result_map}

-- ---- keys

abbrev is_ascii : List ℕ → Bool
is_ascii [] = true
is_ascii (b ∷ bs) = ltb b 128 && is_ascii bs

IsAscii-from_test : (bs : List ℕ) → is_ascii bs ≡ true → IsAscii bs
IsAscii-from_test [] e = IsAscii-nil
IsAscii-from_test (b ∷ bs) e =
    let p = and_parts (ltb b 128) (is_ascii bs) e in
    IsAscii-cons b bs (ltb-true b 128 p.0) (IsAscii-from_test bs p.1)

key : (bs : List ℕ) → is_ascii bs ≡ true → IsUtf8 bs
key bs e = IsUtf8-from_ascii bs (IsAscii-from_test bs e)

-- ---- values with nothing inside

number : (n : ℕ) → n < 2 ^ 32 → IsShaped 1 (v.Number n)
number n fits = shaped_at 0 (Value-F.Number n) (v.Number n) (v.rolls-Number n) fits

text : (bytes : List ℕ) → IsUtf8 bytes → IsShaped 1 (v.Str bytes)
text bytes utf8 = shaped_at 0 (Value-F.Str bytes) (v.Str bytes) (v.rolls-Str bytes) utf8

contents : (bytes : List ℕ) → IsShaped 1 (v.Bytes bytes)
contents bytes = shaped_at 0 (Value-F.Bytes bytes) (v.Bytes bytes) (v.rolls-Bytes bytes) tt

array : (depth : ℕ) (values : List Value) → All (IsShaped depth) values → IsShaped (suc depth) (v.Array values)
array depth values shaped =
    shaped_at depth (Value-F.Array values) (v.Array values) (v.rolls-Array values) (recursion_from_All (IsShaped depth) values shaped)

-- ---- maps

pub empty_shaped : IsShaped 4 (v.Map [])
empty_shaped = shaped_at 3 (Value-F.Map []) (v.Map []) (v.rolls-Map []) (tt, IsDistinct-from_test [] refl)

pub error_shaped : (bytes : List ℕ) → IsUtf8 bytes → IsShaped 4 (error_value bytes)
error_shaped bytes utf8 =
    let pairs = (codes "error", v.Str bytes) ∷ [] in
    IsShaped-deeper 2 4 (lit≤ tt) (error_value bytes) (
    shaped_at 1 (Value-F.Map pairs) (v.Map pairs) (v.rolls-Map pairs) (((key (codes "error") refl, text bytes utf8), tt), IsDistinct-from_test (codes "error" ∷ []) refl)
    )

pub message_shaped : (message : Message) → IsUtf8 message.file → IsUtf8 message.text → message.column < 2 ^ 32 → message.length < 2 ^ 32 → message.line < 2 ^ 32 → IsShaped 2 (message_value message)
message_shaped message file_utf8 text_utf8 column length line =
    let pairs =
    (codes "column", v.Number message.column)
    ∷ (codes "file", v.Str message.file)
    ∷ (codes "length", v.Number message.length)
    ∷ (codes "line", v.Number message.line)
    ∷ (codes "text", v.Str message.text)
    ∷ [] in
    shaped_at 1 (Value-F.Map pairs) (v.Map pairs) (v.rolls-Map pairs) (
      (
        (key (codes "column") refl, number message.column column),
        (
          (key (codes "file") refl, text message.file file_utf8),
          (
            (key (codes "length") refl, number message.length length),
            ((key (codes "line") refl, number message.line line), ((key (codes "text") refl, text message.text text_utf8), tt)),
          ),
        ),
      ),
      IsDistinct-from_test (codes "column" ∷ codes "file" ∷ codes "length" ∷ codes "line" ∷ codes "text" ∷ []) refl,
    )

pub file_shaped : (file : OutFile) → IsUtf8 file.path → IsShaped 2 (file_value file)
file_shaped file utf8 =
    let pairs = (codes "contents", v.Bytes file.contents) ∷ (codes "path", v.Str file.path) ∷ [] in
    shaped_at 1 (Value-F.Map pairs) (v.Map pairs) (v.rolls-Map pairs) (
      ((key (codes "contents") refl, contents file.contents), ((key (codes "path") refl, text file.path utf8), tt)),
      IsDistinct-from_test (codes "contents" ∷ codes "path" ∷ []) refl,
    )

pub result_shaped : (errors files : List Value) → All (IsShaped 2) errors → All (IsShaped 2) files → IsShaped 4 (result_map errors files)
result_shaped errors files errors_shaped files_shaped =
    let pairs = (codes "errors", v.Array errors) ∷ (codes "outputFiles", v.Array files) ∷ [] in
    shaped_at 3 (Value-F.Map pairs) (v.Map pairs) (v.rolls-Map pairs) (
      ((key (codes "errors") refl, array 2 errors errors_shaped), ((key (codes "outputFiles") refl, array 2 files files_shaped), tt)),
      IsDistinct-from_test (codes "errors" ∷ codes "outputFiles" ∷ []) refl,
    )
