use Rattle.std.proofs.Common.{◌≡◌, ℕ, ◌-◌, Bool, List, [], length, Some, None, sym, ap, ◌∙◌, rules, arith}
use Rattle.std.proofs.lemmas.Grind.{common_steps}
use Rattle.esb_tree.specs.declared.patterns.NextElement.{NextElement}
use Rattle.esb_grammar.specs.Kinds.{is_comma}
use Rattle.esb_reader.specs.declared.node.Node.{Node}
use Rattle.esb_reader.specs.Reader.{Reader, repeated, node, none}
use Rattle.esb_reader.specs.Parts.{behind}
use Rattle.esb_literal_laws.specs.Bindings.{bindings_fit}
use Rattle.esb_literal_laws.specs.ElementLists as any
use Rattle.esb_literal_laws.specs.ElementLists.{nexts_of, list_of}
use Rattle.esb_literals.specs.Pieces as pieces
use Rattle.esb_literals.proofs.Lists.{list_read}
use Rattle.esb_literals.proofs.Steps.{one_more}
use Rattle.esb_literals.proofs.literals.Literals.+patterns.Goals as goal

same_length : (bytes text : List ℕ) → bytes ≡ text → length bytes - 0 ≡ length text
same_length bytes text f = let e : length bytes ≡ length text = ap (λ (xs : List ℕ). length xs) f in omega arith

-- before the first turn
begun : (test : ℕ → Bool) (item : Reader (Node NextElement)) (text bytes : List ℕ) (xs : List NextElement) (i : ℕ) → xs ≡ [] → bytes ≡ text → repeated test item (length text) none i ≡ repeated test item (length bytes - 0) (node xs 0) i
begun test item text bytes xs i e f =
    ap (λ (n : ℕ). repeated test item n none i) (sym (same_length bytes text f)) ∙ ap (λ (ys : List NextElement). repeated test item (length bytes - 0) (node ys 0) i) (sym e)

pub next_slots-loop-turn-init : goal.next_slots-loop-turn-init
unfolding nexts_of
next_slots-loop-turn-init g t c =
    let text = c.args.self.now.parser.now.text.now in
    let element = pieces.binding_of text g.R.Readers.expression c.args.form c.args.context c.args.levels in
    begun (λ i. is_comma (behind text i).kind) (any.next_of text element) text c.as_bytes-turn-end.result.now c.new-tree.result c.args.start c.new-tree.ensures c.as_bytes-turn-end.ensures.value

pub next_slots-loop-turn-preserved : goal.next_slots-loop-turn-preserved
unfolding repeated
next_slots-loop-turn-preserved g t c =
    let text = c.args.self.now.parser.now.text.now in
    let l = c.loop-turn in
    let element = pieces.binding_of text g.R.Readers.expression c.args.form c.args.context c.args.levels in
    let e = one_more (λ n. repeated (λ i. is_comma (behind text i).kind) (any.next_of text element) n (node l.tree l.deepest) l.at) _ l._turn c.loop-turn-test.true l.invariant in
    first_of (search rules, grind (arith, common_steps))

pub slots-returns-in-Some : goal.slots-returns-in-Some
unfolding list_of
slots-returns-in-Some g t c =
    let text = c.args.self.now.parser.now.text.now in
    let element = pieces.binding_of text g.R.Readers.expression c.args.form c.args.context c.args.levels in
    let both = c.in_ok-first-2 in
    list_read element (any.nexts_of text element) (bindings_fit c.args.form) c.args.at c.in_ok-first.end both.end both.first c.in_ok-first.first both.rest c.next_slots.result (Some c.in-Some.list) c.in_ok-first.ensures both.ensures.read both.ensures.next c.next_slots.ensures c.in-Some.ensures

pub slots-returns-in-None : goal.slots-returns-in-None
unfolding list_of
slots-returns-in-None g t c =
    let text = c.args.self.now.parser.now.text.now in
    let element = pieces.binding_of text g.R.Readers.expression c.args.form c.args.context c.args.levels in
    let both = c.in_ok-first-2 in
    list_read element (any.nexts_of text element) (bindings_fit c.args.form) c.args.at c.in_ok-first.end both.end both.first c.in_ok-first.first both.rest c.next_slots.result None c.in_ok-first.ensures both.ensures.read both.ensures.next c.next_slots.ensures c.in-None.ensures
