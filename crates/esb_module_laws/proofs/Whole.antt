-- A module is read exactly.
use Rattle.std.proofs.Common.{◌≡◌, ◌⊎◌, inl, inr, ℕ, suc, ◌≤◌, max, nat_le, Bool, true, false, not, ◌&&◌, ◌||◌, cond, List, [], ◌∷◌, length, map, Option, Some, None, Ok, refl, ap, sym, ◌∙◌, subst, arith}
use Rattle.std.specs.List.{flat_map, AllByRecursion}
use Rattle.std.proofs.lemmas.Grind.{common_steps}
use Rattle.esb_token.specs.declared.kind.Kind.TheVariants as k
use Rattle.esb_token.specs.declared.token.Token.{Token}
use Rattle.esb_token.specs.declared.goal.Goal.TheVariants as goal
use Rattle.esb_token.specs.Tokens.{SpelledBetween, next}
use Rattle.esb_tree.specs.declared.modules.ModuleItem.{ModuleItem}
use Rattle.esb_tree.specs.declared.modules.Tree.{Tree}
use Rattle.esb_tree.specs.Levels.{most}
use Rattle.esb_tree.specs.Modules.{tokens_of_item, depth_of_item, levels_of}
use Rattle.esb_tree.specs.Trees.{written}
use Rattle.esb_grammar.specs.Modules.{IsModuleItem, item, import_module, import_from, export_all, export_all_as, export_from, export_names, export_declaration, export_default_function, export_default_class, export_default, AreModuleItems, no_module_items, more_module_items, IsTreeOf}
use Rattle.esb_reader.specs.declared.node.Node.{Node}
use Rattle.esb_reader.specs.Kinds.{agrees}
use Rattle.esb_reader.specs.Places.{Text, if_read, token_at}
use Rattle.esb_reader.specs.Reader.{Found, expect, node}
use Rattle.esb_reader.specs.Parts.{behind}
use Rattle.esb_reader.specs.Stands.{Rule, row, last_stops, list_stops}
use Rattle.esb_reader.proofs.Agreeing.{seen, read_is_next}
use Rattle.esb_reader.proofs.Moves.{tokens-move}
use Rattle.esb_reading_laws.specs.Laws.{Repeats}
use Rattle.esb_reading_laws.proofs.Rows.{many_rule}
use Rattle.esb_reading_laws.proofs.Steps.{then_some, some_is, expect_some, then_goes, expect_goes}
use Rattle.esb_statement_laws.specs.Marks.{begins_statement, begins_item}
use Rattle.esb_statement_laws.proofs.EndingsRead.{spelled_moves}
use Rattle.esb_statement_laws.proofs.Followed.{sees}
use Rattle.esb_statement_laws.proofs.Shown.{shown, item_shown}
use Rattle.esb_module_laws.specs.Exact.{ExactItems}
use Rattle.esb_module_laws.specs.Items.{HandedItems, module_items, module_item, item_list}
use Rattle.esb_module_laws.specs.Laws.{ReadsModule, ModuleRule}
use Rattle.esb_module_laws.specs.Marks.{follows_item}
use Rattle.esb_module_laws.specs.Module.{items_to_end, tree_of, module_tree, handed_items}
use Rattle.esb_module_laws.proofs.ItemRules.{item_rule}
use Rattle.esb_module_laws.proofs.Tied.{items_exactly}

and_of : (a b : Bool) → a ≡ true → b ≡ true → (a && b) ≡ true
and_of true b h g = g
and_of false b h g = cc

or_left : (a b : Bool) → a ≡ true → (a || b) ≡ true
or_left true b h = refl
or_left false b h = cc

le_true : (a b : ℕ) → a ≤ b → nat_le a b ≡ true
le_true a b h = grind (arith, common_steps)

-- a token of the end is read at a place within the text
end_read : (text : Text) (i : ℕ) (t : Token) → i ≤ length text → next text i goal.Div ≡ Ok t → token_at text goal.Div i ≡ Some t
unfolding token_at
end_read text i t within h = ap (λ b. cond b (if_read (next text i goal.Div)) None) (le_true i (length text) within) ∙ ap if_read h

all_items : (text : Text) (xs : List ModuleItem) → AreModuleItems text xs → AllByRecursion (IsModuleItem text) xs
all_items text [] no_module_items = tt
all_items text (x ∷ xs) (more_module_items h g) = (h, all_items text xs g)

are_items : (text : Text) (xs : List ModuleItem) → AllByRecursion (IsModuleItem text) xs → AreModuleItems text xs
are_items text [] h = no_module_items
are_items text (x ∷ xs) h = more_module_items h.0 (are_items text xs h.1)

module _ (text : Text) (n : ℕ) (r : HandedItems) (x : ExactItems text n r) where
  -- ---- with which tokens items begin

  record Opens (y : ModuleItem) : Type 0 where
    first : Token
    rest : List Token
    is : tokens_of_item written y ≡ first ∷ rest
    kind : (begins_statement first.kind ≡ true) ⊎ (first.kind ≡ k.Export)

  opens : (y : ModuleItem) → IsModuleItem text y → Opens y
  opens y (item {x = z} h) = let b = x.begins z h in record { first = b.first; rest = b.rest; is = b.is; kind = inl b.kind }
  opens y (import_module {word = w} h h2 h3) = record { first = w; rest = _; is = refl; kind = inl (ap begins_statement h) }
  opens y (import_from {word = w} h h2 h3 h4) = record { first = w; rest = _; is = refl; kind = inl (ap begins_statement h) }
  opens y (export_all {word = w} h h2 h3 h4) = record { first = w; rest = _; is = refl; kind = inr h }
  opens y (export_all_as {word = w} h h2 h3 h4 h5 h6) = record { first = w; rest = _; is = refl; kind = inr h }
  opens y (export_from {word = w} h h2 h3 h4) = record { first = w; rest = _; is = refl; kind = inr h }
  opens y (export_names {word = w} h h2 h3) = record { first = w; rest = _; is = refl; kind = inr h }
  opens y (export_declaration {word = w} h h2 h3) = record { first = w; rest = _; is = refl; kind = inr h }
  opens y (export_default_function {word = w} h h2 h3) = record { first = w; rest = _; is = refl; kind = inr h }
  opens y (export_default_class {word = w} h h2 h3) = record { first = w; rest = _; is = refl; kind = inr h }
  opens y (export_default {word = w} h h2 h3 h4 h5) = record { first = w; rest = _; is = refl; kind = inr h }

  first_seen : (i j : ℕ) (t : Token) (ts : List Token) → SpelledBetween text i (t ∷ ts) j → (begins_statement t.kind ≡ true) ⊎ (t.kind ≡ k.Export) → begins_item (behind text i).kind ≡ true
  first_seen i j t ts h (inl begins) = item_shown text i t (shown text i t ts j h begins) begins
  first_seen i j t ts h (inr is) = ap (λ (u : Token). begins_item u.kind) (sees text i t ts j h (ap (agrees goal.Div) is)) ∙ ap begins_item is

  abbrev stops : ModuleItem → Token → Bool
  stops y t = follows_item t.kind

  repeats : Repeats text (module_items (IsModuleItem text)) n (suc n) (λ i. begins_item (behind text i).kind) stops (module_item text n r)
  repeats = record {
    rule = item_rule text n r x;
    starts = λ y i j good h. let b = opens y good in first_seen i j b.first b.rest (subst (λ ts. SpelledBetween text i ts j) b.is h) b.kind;
    moves = λ y i j good h. let b = opens y good in spelled_moves text i b.first b.rest j (subst (λ ts. SpelledBetween text i ts j) b.is h);
    apart = λ y i good h. or_left _ _ h;
  }

  list_rule : Rule text (row (module_items (IsModuleItem text))) n (suc n) (list_stops stops (λ t. begins_item t.kind)) (item_list text n r)
  unfolding item_list
  list_rule = many_rule text (module_items (IsModuleItem text)) n (suc n) (λ t. begins_item t.kind) stops (module_item text n r) repeats

  -- the end follows a list
  end_stops : (xs : List ModuleItem) (t : Token) → t.kind ≡ k.End → list_stops stops (λ u. begins_item u.kind) xs t ≡ true
  end_stops xs t is = and_of _ _ (by_list xs) (ap (λ kind. not (begins_item kind)) is)
    where
      by_list : (xs : List ModuleItem) → last_stops stops xs t ≡ true
      by_list [] = refl
      by_list (y ∷ []) = ap follows_item is
      by_list (y ∷ z ∷ ys) = by_list (z ∷ ys)

  -- ---- up to the end

  pub end_sound : (tree : Tree) → tree_of (items_to_end text n r 0) ≡ Some tree → IsTreeOf text tree × (most (map depth_of_item tree.items) ≤ n)
  unfolding items_to_end
  end_sound tree h = by_found (items_to_end text n r 0) refl h
    where
      by_found : (f : Found (Node (List ModuleItem))) → items_to_end text n r 0 ≡ f → tree_of f ≡ Some tree → IsTreeOf text tree × (most (map depth_of_item tree.items) ≤ n)
      by_found None e h = cc
      by_found (Some p) e h =
          let one = then_some (item_list text n r 0) _ p e in
          let two = then_some (expect text k.End one.0.1) _ p one.2 in
          let same : one.0.0 ≡ p.0 = ap (λ z. z.0) (some_is _ _ two.2) in
          let s = list_rule.sound 0 one.0.0 one.0.1 one.1 in
          let end = expect_some text k.End one.0.1 two.0 two.1 in
          let t = two.0.0 in
          let fits = s.fits in
          let deep = s.levels in
          let is : (record { items = one.0.0.tree }) ≡ tree = ap (λ z. record { items = z.tree }) same ∙ some_is _ _ h in
          subst (λ z. IsTreeOf text z × (most (map depth_of_item z.items) ≤ n)) is
          ((are_items text one.0.0.tree s.good, (one.0.1, s.spelled, (t, read_is_next text goal.Div one.0.1 t end.0, end.2))), omega (arith, fits, deep))

  pub end_complete : (tree : Tree) → IsTreeOf text tree → most (map depth_of_item tree.items) ≤ n → tree_of (items_to_end text n r 0) ≡ Some tree
  unfolding items_to_end
  end_complete tree h fits =
      let xs = tree.items in
      let to = h.1.0 in
      let t = h.1.2.0 in
      let within : to ≤ length text = (tokens-move text 0 (flat_map (tokens_of_item written) xs) to h.1.1).1 (omega arith) in
      let read = end_read text to t within h.1.2.1 in
      let ends : (behind text to).kind ≡ k.End = ap (λ (u : Token). u.kind) (seen text goal.Div to t read) ∙ h.1.2.2 in
      let list = node xs (most (map depth_of_item xs)) in
      let found = list_rule.complete 0 list to (record { good = all_items text xs h.0; levels = refl; fits = fits; spelled = h.1.1 }) (omega (arith, fits)) (end_stops xs (behind text to) ends) in
      ap tree_of (then_goes _ _ list to found ∙ then_goes _ _ t t.end (expect_goes text k.End to t read h.1.2.2))

-- ---- the law

pub module_rule : ModuleRule
unfolding module_tree
module_rule text parts nameless exact more = (reads, one)
  where
    sound : (n : ℕ) (tree : Tree) → module_tree text parts nameless n ≡ Some tree → IsTreeOf text tree × (levels_of tree ≤ n)
    sound n tree h =
        let s = end_sound text (suc n) (handed_items text parts nameless (suc n)) (items_exactly text parts nameless exact more (suc n)) tree h in
        let low = s.1 in
        (s.0, omega (arith, low))

    complete : (n : ℕ) (tree : Tree) → IsTreeOf text tree → levels_of tree ≤ n → module_tree text parts nameless n ≡ Some tree
    complete n tree h low = end_complete text (suc n) (handed_items text parts nameless (suc n)) (items_exactly text parts nameless exact more (suc n)) tree h (omega (arith, low))

    nothing : (n : ℕ) (f : Option Tree) → module_tree text parts nameless n ≡ f → ((tree : Tree) → IsTreeOf text tree → ¬ (levels_of tree ≤ n)) → f ≡ None
    nothing n None e h = refl
    nothing n (Some tree) e h = let s = sound n tree e in absurd (h tree s.0 s.1)

    reads : (n : ℕ) → ReadsModule text parts nameless n
    reads n = record {
      exact = λ tree. (sound n tree, λ h. complete n tree h.0 h.1);
      none = (λ e tree h low. let bad : None ≡ Some tree = sym e ∙ complete n tree h low in cc, λ h. nothing n (module_tree text parts nameless n) refl h);
    }

    one : (tree other : Tree) → IsTreeOf text tree → IsTreeOf text other → tree ≡ other
    one tree other h g =
        let n = max (levels_of tree) (levels_of other) in
        some_is tree other (sym (complete n tree h (omega arith)) ∙ complete n other g (omega arith))
