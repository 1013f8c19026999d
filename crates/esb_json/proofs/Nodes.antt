-- Reading a value is exact, to each depth.
use Rattle.std.proofs.Common.{◌≡◌, ℕ, zero, suc, ◌+◌, ◌<◌, ◌≤◌, Bool, true, false, cond, ◌||◌, ◌&&◌, ◌⊎◌, eqb, List, [], ◌∷◌, ◌++◌, length, take, drop, Option, Some, None, refl, sym, ap, subst, ◌∙◌, append_assoc, arith, inl, inr}
use Rattle.std.specs.Prelude.{codes, nat_eq}
use Rattle.std.specs.Char.{is_ascii_digit}
use Rattle.std.specs.Cmp.Lexicographic.{pointwise}
use Rattle.std.specs.Int.{is_in_range}
use Rattle.std.proofs.lemmas.Bool.{eqb-true, and_parts, false_from_ne_true}
use Rattle.std.proofs.lemmas.Bool.Decides.{nat_tests}
use Rattle.std.proofs.lemmas.List.{take-append-drop}
use Rattle.esb_json.specs.declared.value.Json.{Json}
use Rattle.esb_json.specs.declared.value.Json.TheOpen.{Json-F}
use Rattle.esb_json.specs.declared.value.Json.TheViews.{out-Json, roll-Json, out-roll-Json, roll-out-Json}
use Rattle.esb_json.specs.declared.value.Json.TheVariants as v
use Rattle.esb_json.specs.Grammar.{Each, is_space, Spaced, Enclosed, Items, IsMinus, IsInteger, IsNumber, IsString, IsMember, NodeText, TextWithin}
use Rattle.esb_json.specs.Reading.{◌>>=◌, Reader, skip, past, past_word, past_minus, past_integer, past_number, number_at, string_at, spaced_at, name_at, member_at, list_at, made, worded, node_at, value_at}
use Rattle.esb_json.proofs.Exact.{bind_some, some_is, chosen, cond_taken, decided, or_true, Apart, Stands, IsExact, past_takes, past_again, skip_stays, skip_apart}
use Rattle.esb_json.proofs.Numbers.{is_number_part, EndsNumber, IsSpelling, number_exact}
use Rattle.esb_json.proofs.Quoted.{string_takes, string_again, Anything, name_exact}
use Rattle.esb_json.proofs.Listed.{EndsItem, space_is, space_ends, Starts, Item, spaced_exact, spaced_skips, spaced_opens, ListAt, list_takes, list_again}

-- ---- words

pointwise_is : (xs ys : List ℕ) → pointwise nat_eq xs ys ≡ true → xs ≡ ys
pointwise_is [] [] e = refl
pointwise_is [] (y ∷ ys) e = absurd cc
pointwise_is (x ∷ xs) [] e = absurd cc
pointwise_is (x ∷ xs) (y ∷ ys) e =
    let p = and_parts (eqb x y) (pointwise nat_eq xs ys) e in
    ap (λ (k : ℕ). k ∷ xs) (eqb-true x y p.0) ∙ ap (λ (k : List ℕ). y ∷ k) (pointwise_is xs ys p.1)

word_takes : (word bytes rest : List ℕ) → past_word word bytes ≡ Some rest → bytes ≡ word ++ rest
unfolding past_word
word_takes word bytes rest e =
    let p = cond_taken (pointwise nat_eq (take (length word) bytes) word) (Some (drop (length word) bytes)) rest e in
    sym (take-append-drop (length word) bytes)
    ∙ ap (λ (k : List ℕ). k ++ drop (length word) bytes) (pointwise_is (take (length word) bytes) word p.0)
    ∙ ap (λ (k : List ℕ). word ++ k) (some_is (drop (length word) bytes) rest p.1)

null_again : (rest : List ℕ) → past_word (codes "ull") (codes "ull" ++ rest) ≡ Some rest
unfolding past_word
null_again rest = refl

true_again : (rest : List ℕ) → past_word (codes "rue") (codes "rue" ++ rest) ≡ Some rest
unfolding past_word
true_again rest = refl

false_again : (rest : List ℕ) → past_word (codes "alse") (codes "alse" ++ rest) ≡ Some rest
unfolding past_word
false_again rest = refl

-- ---- how a value begins

abbrev is_number_start : ℕ → Bool
is_number_start b = eqb b 0x2D || is_ascii_digit b

first_digit : (d : ℕ) → is_in_range 0x31 0x39 d ≡ true → is_number_start d ≡ true
first_digit d h = grind (arith, nat_tests)

-- a number's first byte
record Begun (text : List ℕ) : Type 0 where
  lead : ℕ
  tail : List ℕ
  parts : text ≡ lead ∷ tail
  is : is_number_start lead ≡ true

begun_from : (text minus integer more : List ℕ) → IsMinus minus → IsInteger integer → text ≡ minus ++ (integer ++ more) → Begun text
begun_from text [] [] more m i parts = absurd i
begun_from text [] (d ∷ ds) more m (inl p) parts = record { lead = d; tail = ds ++ more; parts = parts; is = rw p.0 refl }
begun_from text [] (d ∷ ds) more m (inr p) parts = record { lead = d; tail = ds ++ more; parts = parts; is = first_digit d p.0 }
begun_from text (b ∷ bs) integer more m i parts = record { lead = b; tail = bs ++ (integer ++ more); parts = parts; is = rw m.0 refl }

begun : (text : List ℕ) → IsNumber text → Begun text
begun text n = begun_from text n.minus n.integer (n.fraction ++ n.exponent) n.is_minus n.is_integer n.parts

differ : (a b : Bool) → a ≡ true → b ≡ false → a ≡ b → ⊥
differ a b p q e = cc

no_number : (b k : ℕ) → is_number_start b ≡ true → is_number_start k ≡ false → eqb b k ≡ false
no_number b k h g = false_from_ne_true (eqb b k) (λ e. differ (is_number_start b) (is_number_start k) h g (ap is_number_start (eqb-true b k e)))

number_node : (read : Reader Json) (b : ℕ) (rest : List ℕ) → is_number_start b ≡ true → node_at read b rest ≡ made v.Number (number_at (b ∷ rest))
unfolding node_at
number_node read b rest h =
    rw (no_number b 0x22 h refl, no_number b 0x5B h refl, no_number b 0x7B h refl, no_number b 0x6E h refl, no_number b 0x74 h refl, no_number b 0x66 h refl) refl

-- the bytes that begin no value: white space and what closes a list
space_none : (read : Reader Json) (rest : List ℕ) (b : ℕ) → is_space b ≡ true → node_at read b rest ≡ None
unfolding node_at number_at past_number past_minus past_integer
space_none read rest b h = space_is (λ k. node_at read k rest ≡ None) refl refl refl refl b h

bracket_none : (read : Reader Json) (rest : List ℕ) → node_at read 0x5D rest ≡ None
unfolding node_at number_at past_number past_minus past_integer
bracket_none read rest = refl

not_some : {A : Type 0} (o : Option A) (x : A) → o ≡ None → o ≡ Some x → ⊥
not_some o x p q = cc

value_apart : (depth : ℕ) (b : ℕ) (rest : List ℕ) (x : Json × List ℕ) → value_at (suc depth) (b ∷ rest) ≡ Some x → is_space b ≡ false
unfolding value_at
value_apart depth b rest x e = false_from_ne_true (is_space b) (λ h. not_some (node_at (value_at depth) b rest) x (space_none (value_at depth) rest b h) e)

value_no_bracket : (depth : ℕ) (b : ℕ) (rest : List ℕ) (x : Json × List ℕ) → value_at (suc depth) (b ∷ rest) ≡ Some x → eqb b 0x5D ≡ false
unfolding value_at
value_no_bracket depth b rest x e =
    false_from_ne_true (eqb b 0x5D) (λ h. not_some (node_at (value_at depth) b rest) x (ap (λ (k : ℕ). node_at (value_at depth) k rest) (eqb-true b 0x5D h) ∙ bracket_none (value_at depth) rest) e)

nothing_read : (bytes : List ℕ) (x : Json × List ℕ) → value_at 0 bytes ≡ Some x → ⊥
unfolding value_at
nothing_read bytes x e = cc

nothing_there : (depth : ℕ) (x : Json × List ℕ) → value_at (suc depth) [] ≡ Some x → ⊥
unfolding value_at
nothing_there depth x e = cc

value_starts : (depth : ℕ) (bytes : List ℕ) (x : Json × List ℕ) → value_at depth bytes ≡ Some x → Starts 0x5D bytes
value_starts zero bytes x e = absurd (nothing_read bytes x e)
value_starts (suc depth) [] x e = absurd (nothing_there depth x e)
value_starts (suc depth) (b ∷ rest) x e = (value_apart depth b rest x e, value_no_bracket depth b rest x e)

-- a name begins with its quotation mark
name_starts : (bytes : List ℕ) (x : List ℕ × List ℕ) → name_at bytes ≡ Some x → Starts 0x7D bytes
unfolding name_at
name_starts bytes x e =
    let a = bind_some (past 0x22 bytes) (λ rest. string_at rest) x e in
    subst (λ (k : List ℕ). Starts 0x7D k) (sym (past_takes 0x22 bytes a.0 a.1)) (refl, refl)

-- ---- the text of a layer is that of its value

rolled : (depth : ℕ) (layer : Json-F Json) (value : Json) (text : List ℕ) → roll-Json layer ≡ value → NodeText (TextWithin depth) layer text → TextWithin (suc depth) value text
rolled depth layer value text is p =
    subst (λ (w : Json). TextWithin (suc depth) w text) is (subst (λ (l : Json-F Json). NodeText (TextWithin depth) l text) (sym (out-roll-Json layer)) p)

any_ends : (after rest : List ℕ) → Each is_space after → EndsItem rest → Anything (after ++ rest)
any_ends after rest p q = tt

-- what is made of what was read, where Q says its text
made_takes : {Y : Type 0} (depth : ℕ) (Q : Y → List ℕ → Type 0) (make : Y → Json) (layer : Y → Json-F Json) (bytes : List ℕ) (read : Option (Y × List ℕ)) (x : Json × List ℕ)
    → ((y : Y) → roll-Json (layer y) ≡ make y) → ((y : Y) (text : List ℕ) → Q y text → NodeText (TextWithin depth) (layer y) text)
    → ((y : Y × List ℕ) → read ≡ Some y → Stands Q bytes y) → made make read ≡ Some x → Stands (TextWithin (suc depth)) bytes x
made_takes {Y} depth Q make layer bytes read x rolls node stands e =
    let a = bind_some read (λ (y : Y × List ℕ). Some (make y.0, y.1)) x e in
    let s = stands a.0 a.1 in
    let whole : Stands (TextWithin (suc depth)) bytes (make a.0.0, a.0.1) = record {
      text = s.text;
      spelled = rolled depth (layer a.0.0) (make a.0.0) s.text (rolls a.0.0) (node a.0.0 s.text s.spelled);
      parts = s.parts;
    } in
    subst (λ (y : Json × List ℕ). Stands (TextWithin (suc depth)) bytes y) (some_is (make a.0.0, a.0.1) x a.2) whole

worded_takes : (depth : ℕ) (value : Json) (layer : Json-F Json) (b : ℕ) (word rest : List ℕ) (x : Json × List ℕ) → roll-Json layer ≡ value → NodeText (TextWithin depth) layer (b ∷ word)
    → worded value (past_word word rest) ≡ Some x → Stands (TextWithin (suc depth)) (b ∷ rest) x
worded_takes depth value layer b word rest x rolls node e =
    let a = bind_some (past_word word rest) (λ (after : List ℕ). Some (value, after)) x e in
    let whole : Stands (TextWithin (suc depth)) (b ∷ rest) (value, a.0) = record {
      text = b ∷ word;
      spelled = rolled depth layer value (b ∷ word) rolls node;
      parts = ap (λ (k : List ℕ). b ∷ k) (word_takes word rest a.0 a.1);
    } in
    subst (λ (y : Json × List ℕ). Stands (TextWithin (suc depth)) (b ∷ rest) y) (some_is (value, a.0) x a.2) whole

-- ---- members and lists, where the values inside are read exactly

regroup : (a b c : List ℕ) (k : ℕ) → a ++ k ∷ (b ++ c) ≡ (a ++ k ∷ b) ++ c
regroup a b c k = sym (append_assoc a (k ∷ b) c)

module _ (depth : ℕ) (exact : IsExact (value_at depth) (TextWithin depth) EndsNumber) where
  abbrev Element : Json → List ℕ → Type 0
  Element value text = Spaced (TextWithin depth value) text

  abbrev Name : List ℕ → List ℕ → Type 0
  Name units text = Spaced (IsString units) text

  abbrev Member : List ℕ × Json → List ℕ → Type 0
  Member member text = IsMember (TextWithin depth) member text

  element_exact : IsExact (spaced_at (value_at depth)) Element EndsItem
  element_exact = spaced_exact (value_at depth) (TextWithin depth) EndsNumber exact 0x5D (value_starts depth) space_ends

  element_skips : (bytes : List ℕ) → spaced_at (value_at depth) (skip is_space bytes) ≡ spaced_at (value_at depth) bytes
  element_skips = spaced_skips (value_at depth) (TextWithin depth) EndsNumber exact 0x5D (value_starts depth) space_ends

  element_opens : (bytes : List ℕ) (x : Json × List ℕ) → spaced_at (value_at depth) bytes ≡ Some x → Starts 0x5D (skip is_space bytes)
  element_opens = spaced_opens (value_at depth) (TextWithin depth) EndsNumber exact 0x5D (value_starts depth) space_ends

  named_exact : IsExact (spaced_at name_at) Name EndsItem
  named_exact = spaced_exact name_at IsString Anything name_exact 0x7D name_starts any_ends

  named_skips : (bytes : List ℕ) → spaced_at name_at (skip is_space bytes) ≡ spaced_at name_at bytes
  named_skips = spaced_skips name_at IsString Anything name_exact 0x7D name_starts any_ends

  named_opens : (bytes : List ℕ) (x : List ℕ × List ℕ) → spaced_at name_at bytes ≡ Some x → Starts 0x7D (skip is_space bytes)
  named_opens = spaced_opens name_at IsString Anything name_exact 0x7D name_starts any_ends

  abbrev after_name : List ℕ × List ℕ → Option ((List ℕ × Json) × List ℕ)
  after_name name = past 0x3A name.1 >>= λ rest. (spaced_at (value_at depth) rest >>= λ value. Some ((name.0, value.0), value.1))

  member_takes : (bytes : List ℕ) (x : (List ℕ × Json) × List ℕ) → member_at (value_at depth) bytes ≡ Some x → Stands Member bytes x
  unfolding member_at
  member_takes bytes x e =
      let a = bind_some (spaced_at name_at bytes) after_name x e in
      let b = bind_some (past 0x3A a.0.1) (λ rest. spaced_at (value_at depth) rest >>= λ value. Some ((a.0.0, value.0), value.1)) x a.2 in
      let c = bind_some (spaced_at (value_at depth) b.0) (λ value. Some ((a.0.0, value.0), value.1)) x b.2 in
      let n = named_exact.takes bytes a.0 a.1 in
      let w = element_exact.takes b.0 c.0 c.1 in
      let whole : Stands Member bytes ((a.0.0, c.0.0), c.0.1) = record {
        text = n.text ++ 0x3A ∷ w.text;
        spelled = record { name = n.text; value = w.text; is_name = n.spelled; is_value = w.spelled; parts = refl };
        parts = n.parts ∙ ap (λ (k : List ℕ). n.text ++ k) (past_takes 0x3A a.0.1 b.0 b.1 ∙ ap (λ (k : List ℕ). 0x3A ∷ k) w.parts) ∙ regroup n.text w.text c.0.1 0x3A;
      } in
      subst (λ (y : (List ℕ × Json) × List ℕ). Stands Member bytes y) (some_is ((a.0.0, c.0.0), c.0.1) x c.2) whole

  member_again : (member : List ℕ × Json) (text rest : List ℕ) → Member member text → EndsItem rest → member_at (value_at depth) (text ++ rest) ≡ Some (member, rest)
  unfolding member_at
  member_again member text rest m ends =
      let behind : List ℕ = 0x3A ∷ (m.value ++ rest) in
      let grouped : text ++ rest ≡ m.name ++ behind = ap (λ (k : List ℕ). k ++ rest) m.parts ∙ sym (regroup m.name m.value rest 0x3A) in
      let named : spaced_at name_at (m.name ++ behind) ≡ Some (member.0, behind) = named_exact.again member.0 m.name behind m.is_name (refl, refl) in
      let valued : spaced_at (value_at depth) (m.value ++ rest) ≡ Some (member.1, rest) = element_exact.again member.1 m.value rest m.is_value ends in
      ap (λ (k : List ℕ). spaced_at name_at k >>= after_name) grouped
      ∙ ap (λ (o : Option (List ℕ × List ℕ)). o >>= after_name) named
      ∙ ap (λ (o : Option (List ℕ)). o >>= λ after. (spaced_at (value_at depth) after >>= λ value. Some ((member.0, value.0), value.1))) (past_again 0x3A (m.value ++ rest))
      ∙ ap (λ (o : Option (Json × List ℕ)). o >>= λ value. Some ((member.0, value.0), value.1)) valued

  member_exact : IsExact (member_at (value_at depth)) Member EndsItem
  member_exact = record { takes = member_takes; again = member_again }

  member_skips : (bytes : List ℕ) → member_at (value_at depth) (skip is_space bytes) ≡ member_at (value_at depth) bytes
  unfolding member_at
  member_skips bytes = ap (λ (o : Option (List ℕ × List ℕ)). o >>= after_name) (named_skips bytes)

  member_opens : (bytes : List ℕ) (x : (List ℕ × Json) × List ℕ) → member_at (value_at depth) bytes ≡ Some x → Starts 0x7D (skip is_space bytes)
  unfolding member_at
  member_opens bytes x e =
      let a = bind_some (spaced_at name_at bytes) after_name x e in
      named_opens bytes a.0 a.1

  closes_array : (rest : List ℕ) → EndsItem (0x5D ∷ rest)
  closes_array rest = (refl, refl)

  closes_object : (rest : List ℕ) → EndsItem (0x7D ∷ rest)
  closes_object rest = (refl, refl)

  -- ---- what stands behind the byte that opens a list

  abbrev IsArray : List Json → List ℕ → Type 0
  IsArray values text = Enclosed 0x5B 0x5D (Items Element values) text

  abbrev IsObject : List (List ℕ × Json) → List ℕ → Type 0
  IsObject members text = Enclosed 0x7B 0x7D (Items Member members) text

  array_takes : (rest : List ℕ) (y : List Json × List ℕ) → list_at (spaced_at (value_at depth)) 0x5D rest ≡ Some y → Stands IsArray (0x5B ∷ rest) y
  array_takes rest y e =
      let l = list_takes (spaced_at (value_at depth)) Element element_exact 0x5D refl refl closes_array element_skips element_opens rest y e in
      record {
        text = 0x5B ∷ (l.inner ++ 0x5D ∷ []);
        spelled = record { inner = l.inner; inside = l.inside; parts = refl };
        parts = ap (λ (k : List ℕ). 0x5B ∷ k) (l.parts ∙ regroup l.inner [] y.1 0x5D);
      }

  object_takes : (rest : List ℕ) (y : List (List ℕ × Json) × List ℕ) → list_at (member_at (value_at depth)) 0x7D rest ≡ Some y → Stands IsObject (0x7B ∷ rest) y
  object_takes rest y e =
      let l = list_takes (member_at (value_at depth)) Member member_exact 0x7D refl refl closes_object member_skips member_opens rest y e in
      record {
        text = 0x7B ∷ (l.inner ++ 0x7D ∷ []);
        spelled = record { inner = l.inner; inside = l.inside; parts = refl };
        parts = ap (λ (k : List ℕ). 0x7B ∷ k) (l.parts ∙ regroup l.inner [] y.1 0x7D);
      }

  array_again : (values : List Json) (inner rest : List ℕ) → Items Element values inner → list_at (spaced_at (value_at depth)) 0x5D ((inner ++ 0x5D ∷ []) ++ rest) ≡ Some (values, rest)
  array_again values inner rest p =
      ap (list_at (spaced_at (value_at depth)) 0x5D) (sym (regroup inner [] rest 0x5D))
      ∙ list_again (spaced_at (value_at depth)) Element element_exact 0x5D refl refl closes_array element_skips element_opens values inner rest p

  object_again : (members : List (List ℕ × Json)) (inner rest : List ℕ) → Items Member members inner → list_at (member_at (value_at depth)) 0x7D ((inner ++ 0x7D ∷ []) ++ rest) ≡ Some (members, rest)
  object_again members inner rest p =
      ap (list_at (member_at (value_at depth)) 0x7D) (sym (regroup inner [] rest 0x7D))
      ∙ list_again (member_at (value_at depth)) Member member_exact 0x7D refl refl closes_object member_skips member_opens members inner rest p

  -- ---- a value by its first byte

  abbrev read : Reader Json
  read = value_at depth

  abbrev Good : ℕ → List ℕ → Json × List ℕ → Type 0
  Good b rest x = Stands (TextWithin (suc depth)) (b ∷ rest) x

  string_here : (rest : List ℕ) (x : Json × List ℕ) → made v.Str (string_at rest) ≡ Some x → Good 0x22 rest x
  string_here rest x e = made_takes depth IsString v.Str Json-F.Str (0x22 ∷ rest) (string_at rest) x v.rolls-Str (λ units text p. p) (λ y h. string_takes rest y h) e

  array_here : (rest : List ℕ) (x : Json × List ℕ) → made v.Array (list_at (spaced_at read) 0x5D rest) ≡ Some x → Good 0x5B rest x
  array_here rest x e = made_takes depth IsArray v.Array Json-F.Array (0x5B ∷ rest) (list_at (spaced_at read) 0x5D rest) x v.rolls-Array (λ values text p. p) (λ y h. array_takes rest y h) e

  object_here : (rest : List ℕ) (x : Json × List ℕ) → made v.Object (list_at (member_at read) 0x7D rest) ≡ Some x → Good 0x7B rest x
  object_here rest x e = made_takes depth IsObject v.Object Json-F.Object (0x7B ∷ rest) (list_at (member_at read) 0x7D rest) x v.rolls-Object (λ members text p. p) (λ y h. object_takes rest y h) e

  number_here : (b : ℕ) (rest : List ℕ) (x : Json × List ℕ) → made v.Number (number_at (b ∷ rest)) ≡ Some x → Good b rest x
  number_here b rest x e = made_takes depth IsSpelling v.Number Json-F.Number (b ∷ rest) (number_at (b ∷ rest)) x v.rolls-Number (λ spelling text p. p) (λ y h. number_exact.takes (b ∷ rest) y h) e

  -- a test that chose what the answer is
  chosen_at : {A : Type 0} (P : ℕ → Type 0) (b k : ℕ) (x y z : A) → cond (eqb b k) x y ≡ z → (x ≡ z → P k) → (y ≡ z → P b) → P b
  chosen_at P b k x y z e here other =
      elim (chosen (eqb b k) x y z e) [
        | inl p ↦ subst P (sym (eqb-true b k p.0)) (here p.1)
        | inr p ↦ other p.1
      ]

  node_takes : (b : ℕ) (rest : List ℕ) (x : Json × List ℕ) → node_at read b rest ≡ Some x → Good b rest x
  unfolding node_at
  node_takes b rest x e =
      let P : ℕ → Type 0 = λ k. Good k rest x in
      chosen_at P b 0x22 _ _ _ e (string_here rest x)
      (λ e1. chosen_at P b 0x5B _ _ _ e1 (array_here rest x)
      (λ e2. chosen_at P b 0x7B _ _ _ e2 (object_here rest x)
      (λ e3. chosen_at P b 0x6E _ _ _ e3 (worded_takes depth v.Null Json-F.Null 0x6E (codes "ull") rest x v.rolls-Null refl)
      (λ e4. chosen_at P b 0x74 _ _ _ e4 (worded_takes depth (v.Bool true) (Json-F.Bool true) 0x74 (codes "rue") rest x (v.rolls-Bool true) refl)
      (λ e5. chosen_at P b 0x66 _ _ _ e5 (worded_takes depth (v.Bool false) (Json-F.Bool false) 0x66 (codes "alse") rest x (v.rolls-Bool false) refl)
      (number_here b rest x))))))

  layer_again : (layer : Json-F Json) (text rest : List ℕ) → NodeText (TextWithin depth) layer text → EndsNumber rest → value_at (suc depth) (text ++ rest) ≡ Some (roll-Json layer, rest)
  unfolding value_at node_at
  layer_again Json-F.Null text rest p ends = rw (p, v.rolls-Null, null_again rest) refl
  layer_again (Json-F.Bool true) text rest p ends = rw (p, v.rolls-Bool true, true_again rest) refl
  layer_again (Json-F.Bool false) text rest p ends = rw (p, v.rolls-Bool false, false_again rest) refl
  layer_again (Json-F.Number spelling) text rest p ends =
      let b = begun spelling p.0 in
      let grouped : text ≡ b.lead ∷ b.tail = p.1 ∙ b.parts in
      ap (λ (k : List ℕ). value_at (suc depth) (k ++ rest)) grouped
      ∙ number_node read b.lead (b.tail ++ rest) b.is
      ∙ ap (λ (k : List ℕ). made v.Number (number_at (k ++ rest))) (sym grouped)
      ∙ ap (λ (o : Option (List ℕ × List ℕ)). made v.Number o) (number_exact.again spelling text rest p ends)
      ∙ ap (λ (w : Json). Some (w, rest)) (sym (v.rolls-Number spelling))
  layer_again (Json-F.Str units) text rest p ends = rw (p.parts, v.rolls-Str units, string_again units p.inner rest p.inside) refl
  layer_again (Json-F.Array values) text rest p ends = rw (p.parts, v.rolls-Array values, array_again values p.inner rest p.inside) refl
  layer_again (Json-F.Object members) text rest p ends = rw (p.parts, v.rolls-Object members, object_again members p.inner rest p.inside) refl

value_takes : (depth : ℕ) → IsExact (value_at depth) (TextWithin depth) EndsNumber → (bytes : List ℕ) (x : Json × List ℕ) → value_at (suc depth) bytes ≡ Some x → Stands (TextWithin (suc depth)) bytes x
unfolding value_at
value_takes depth exact [] x e = absurd (nothing_there depth x e)
value_takes depth exact (b ∷ rest) x e = node_takes depth exact b rest x e

value_again : (depth : ℕ) → IsExact (value_at depth) (TextWithin depth) EndsNumber → (value : Json) (text rest : List ℕ) → TextWithin (suc depth) value text → EndsNumber rest → value_at (suc depth) (text ++ rest) ≡ Some (value, rest)
value_again depth exact value text rest p ends =
    layer_again depth exact (out-Json value) text rest p ends ∙ ap (λ (w : Json). Some (w, rest)) (roll-out-Json value)

pub value_exact : (depth : ℕ) → IsExact (value_at depth) (TextWithin depth) EndsNumber
value_exact zero = record { takes = λ bytes x e. absurd (nothing_read bytes x e); again = λ value text rest p ends. absurd p }
value_exact (suc depth) = record { takes = value_takes depth (value_exact depth); again = value_again depth (value_exact depth) }

pub whole_exact : (depth : ℕ) → IsExact (spaced_at (value_at depth)) (λ value text. Spaced (TextWithin depth value) text) EndsItem
whole_exact depth = element_exact depth (value_exact depth)
