-- The test of a complete table holds exactly where the table is complete.
use Rattle.std.proofs.Common.{◌≡◌, ℕ, zero, suc, ◌<◌, Bool, true, false, ◌&&◌, List, [], ◌∷◌, length, Option, None, Some, slice_get, refl, sym, ap, subst, ◌∙◌, true≢false}
use Rattle.std.specs.List.{list_all}
use Rattle.std.proofs.lemmas.Option.{slice_get_within}
use Rattle.esb_base.specs.declared.file_name.FileName.{FileName}
use Rattle.esb_flags.specs.declared.options.Options.{Options}
use Rattle.esb_ask.specs.declared.question.Question.{Question}
use Rattle.esb_ask.specs.declared.answer.Answer.{Answer}
use Rattle.esb_ask.specs.declared.product.Product.TheVariants as product
use Rattle.esb_ask.specs.declared.product.Resolved.TheVariants as resolved
use Rattle.esb_scan.specs.declared.run.Run.{Run}
use Rattle.esb_scan.specs.declared.run.Run.TheVariants as run_of
use Rattle.esb_scan.specs.Run.{run_entry, run_numbered, run_load, is_done}
use Rattle.esb_scan.specs.Complete.{IsComplete, is_loaded, all_loaded}

-- ---- all of a list

both_true : (b d : Bool) → (b && d) ≡ true → (b ≡ true) × (d ≡ true)
both_true true d e = (refl, e)
both_true false d e = absurd (true≢false (sym e))

true_both : (b d : Bool) → b ≡ true → d ≡ true → (b && d) ≡ true
true_both true d e f = f
true_both false d e f = e

module _ {X : Type 0} (test : X → Bool) where
  passes_at : (xs : List X) (i : ℕ) (x : X) → list_all test xs ≡ true → slice_get xs i ≡ Some x → test x ≡ true
  passes_at [] i x h e = absurd cc
  passes_at (y ∷ ys) zero x h e =
      let same : y ≡ x = cc in
      ap test (sym same) ∙ (both_true (test y) (list_all test ys) h).0
  passes_at (y ∷ ys) (suc i) x h e = passes_at ys i x (both_true (test y) (list_all test ys) h).1 e

  all_pass : (xs : List X) → ((i : ℕ) (x : X) → slice_get xs i ≡ Some x → test x ≡ true) → list_all test xs ≡ true
  all_pass [] h = refl
  all_pass (x ∷ xs) h = true_both (test x) (list_all test xs) (h 0 x refl) (all_pass xs (λ i y e. h (suc i) y e))

-- ---- one entry

done-from_loaded : (options : Options) (table : List (Question × Answer)) (r : Run) → is_loaded options table r ≡ true → is_done r ≡ true
done-from_loaded options table (run_of.Asks asked) e = e
done-from_loaded options table (run_of.Done given) e = refl
done-from_loaded options table run_of.Memory e = e

load-from_loaded : (options : Options) (table : List (Question × Answer)) (r : Run) (name : FileName) (marked : Bool) → is_loaded options table r ≡ true → r ≡ run_of.Done (product.Entry (resolved.To name marked)) → is_done (run_load options table name) ≡ true
load-from_loaded options table r name marked e is = sym (ap (is_loaded options table) is) ∙ e

loaded-from_done : (options : Options) (table : List (Question × Answer)) (r : Run) → is_done r ≡ true → ((name : FileName) (marked : Bool) → r ≡ run_of.Done (product.Entry (resolved.To name marked)) → is_done (run_load options table name) ≡ true) → is_loaded options table r ≡ true
loaded-from_done options table (run_of.Asks asked) done h = done
loaded-from_done options table (run_of.Done (product.Entry (resolved.To name marked))) done h = h name marked refl
loaded-from_done options table (run_of.Done (product.Entry resolved.External)) done h = refl
loaded-from_done options table (run_of.Done (product.Entry resolved.Left)) done h = refl
loaded-from_done options table (run_of.Done (product.Entry (resolved.Refused message))) done h = refl
loaded-from_done options table (run_of.Done (product.Load loading)) done h = refl
loaded-from_done options table run_of.Memory done h = done

-- ---- the table

module _ (options : Options) (table : List (Question × Answer)) where
  abbrev numbered : Option (List ℕ × List ℕ) → Run
  numbered entry = run_numbered options table entry

  abbrev loaded_at : List ℕ × List ℕ → Bool
  loaded_at entry = is_loaded options table (run_entry options table entry)

  entry_done : all_loaded options table options.entries ≡ true → (number : ℕ) → number < length options.entries → (entry : Option (List ℕ × List ℕ)) → slice_get options.entries number ≡ entry → is_done (numbered entry) ≡ true
  entry_done h number lt None e = refl
  entry_done h number lt (Some entry) e = done-from_loaded options table (run_entry options table entry) (passes_at loaded_at options.entries number entry h e)

  load_done : all_loaded options table options.entries ≡ true → (number : ℕ) (name : FileName) (marked : Bool) → (entry : Option (List ℕ × List ℕ)) → slice_get options.entries number ≡ entry → numbered entry ≡ run_of.Done (product.Entry (resolved.To name marked)) → is_done (run_load options table name) ≡ true
  load_done h number name marked None e is = absurd cc
  load_done h number name marked (Some entry) e is = load-from_loaded options table (run_entry options table entry) name marked (passes_at loaded_at options.entries number entry h e) is

  pub complete-from_test : all_loaded options table options.entries ≡ true → IsComplete options table
  complete-from_test h = record {
    entries = λ number lt. entry_done h number lt (slice_get options.entries number) refl;
    loads = λ number name marked is. load_done h number name marked (slice_get options.entries number) refl is;
  }

  pub test-from_complete : IsComplete options table → all_loaded options table options.entries ≡ true
  test-from_complete complete =
      all_pass loaded_at options.entries
      (λ i entry e.
      loaded-from_done options table (run_entry options table entry)
      (subst (λ (o : Option (List ℕ × List ℕ)). is_done (numbered o) ≡ true) e (complete.entries i (slice_get_within options.entries i entry e)))
      (λ name marked is. complete.loads i name marked (ap numbered e ∙ is)))
