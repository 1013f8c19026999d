-- How a walk over flags goes on behind a word that is a flag and no repeat.
use Rattle.std.proofs.Common.{◌≡◌, ℕ, ◌+◌, ◌<◌, Bool, true, false, ◌||◌, cond, List, [], ◌∷◌, ◌++◌, length, take, drop, get_or, Option, Some, None, refl, sym, ap, ◌∙◌}
use Rattle.std.specs.List.{list_any}
use Rattle.std.specs.Option.{is_some}
use Rattle.std.specs.Str.{bytes_eq}
use Rattle.std.proofs.lemmas.List.{at_drop_more, take_more}
use Rattle.std.proofs.lemmas.List.Folds.{list_any-append}
use Rattle.esb_flags.specs.declared.fault.FlagFault.{FlagFault}
use Rattle.esb_flags.specs.Flags.{flag_of, once, is_there, is_among, fault_of, first_fault}

or_false : (b : Bool) → (b || false) ≡ b
or_false true = refl
or_false false = refl

or_cond : (seen here : Bool) → cond here true seen ≡ (seen || here)
or_cond true true = refl
or_cond true false = refl
or_cond false true = refl
or_cond false false = refl

took : (words : List (List ℕ)) (i : ℕ) (word d : List ℕ) → i < length words → word ≡ get_or words i d → take (i + 1) words ≡ take i words ++ word ∷ []
took words i word d lt is = take_more words i d lt ∙ ap (λ w. take i words ++ w ∷ []) (sym is)

pub no_fault : (earlier : List (List ℕ)) (word : List ℕ) → is_some (flag_of word) ≡ true → is_among earlier (once word) ≡ false → fault_of earlier word ≡ None
no_fault earlier word flag alone = rw (flag, alone) refl

pub faults_on : (words : List (List ℕ)) (i : ℕ) (word d : List ℕ) (total : Option FlagFault) → i < length words → word ≡ get_or words i d → first_fault (take i words) (drop i words) ≡ total
    → fault_of (take i words) word ≡ None → first_fault (take (i + 1) words) (drop (i + 1) words) ≡ total
faults_on words i word d total lt is so_far none =
    let here = ap (λ (w : List ℕ). first_fault (take i words) (w ∷ drop (i + 1) words)) is
    ∙ sym (at_drop_more (λ rest. first_fault (take i words) rest) words i d lt) ∙ so_far in
    let on : first_fault (take i words) (word ∷ drop (i + 1) words) ≡ first_fault (take i words ++ word ∷ []) (drop (i + 1) words) = rw none refl in
    ap (λ (t : List (List ℕ)). first_fault t (drop (i + 1) words)) (took words i word d lt is) ∙ sym on ∙ here

pub seen_on : (seen now : List ℕ → Bool) (words : List (List ℕ)) (i : ℕ) (word d : List ℕ) → i < length words → word ≡ get_or words i d
    → ((q : List ℕ) → seen q ≡ list_any (λ w. is_there q (once w)) (take i words)) → ((q : List ℕ) → now q ≡ (seen q || is_there q (once word)))
    → (q : List ℕ) → now q ≡ list_any (λ w. is_there q (once w)) (take (i + 1) words)
seen_on seen now words i word d lt is h k q =
    k q ∙ ap (λ b. b || is_there q (once word)) (h q)
    ∙ ap (λ b. list_any (λ w. is_there q (once w)) (take i words) || b) (sym (or_false (is_there q (once word))))
    ∙ sym (list_any-append (λ w. is_there q (once w)) (take i words) (word ∷ []))
    ∙ ap (λ (t : List (List ℕ)). list_any (λ w. is_there q (once w)) t) (sym (took words i word d lt is))

-- a word that shares a text
pub noted : (seen now : List ℕ → Bool) (text word : List ℕ) → once word ≡ Some text → ((q : List ℕ) → now q ≡ cond (bytes_eq text q) true (seen q)) → (q : List ℕ) → now q ≡ (seen q || is_there q (once word))
noted seen now text word is h q = h q ∙ or_cond (seen q) (bytes_eq text q) ∙ ap (λ o. seen q || is_there q o) (sym is)

-- a word that shares none
pub free : (seen : List ℕ → Bool) (word : List ℕ) → once word ≡ None → (q : List ℕ) → seen q ≡ (seen q || is_there q (once word))
free seen word is q = sym (or_false (seen q)) ∙ ap (λ o. seen q || is_there q o) (sym is)

pub among_none : (earlier : List (List ℕ)) (word : List ℕ) → once word ≡ None → is_among earlier (once word) ≡ false
among_none earlier word is = ap (λ o. is_among earlier o) is

pub among_some : (earlier : List (List ℕ)) (word text : List ℕ) → once word ≡ Some text → list_any (λ w. is_there text (once w)) earlier ≡ false → is_among earlier (once word) ≡ false
among_some earlier word text is none = ap (λ o. is_among earlier o) is ∙ none
