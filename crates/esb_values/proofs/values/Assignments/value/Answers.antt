use Rattle.std.proofs.Common.{◌≡◌, true, false, sym, ◌∙◌, rules, arith}
use Rattle.std.proofs.lemmas.Grind.{common_steps}
use Rattle.esb_grammar.specs.Contexts.{inside}
use Rattle.esb_reader.specs.Parts.{behind}
use Rattle.esb_inner.specs.Inner.{below}
use Rattle.esb_access_laws.specs.Links.{is_left_parenthesis}
use Rattle.esb_value_laws.specs.Arrows.{at_async_name, at_name}
use Rattle.esb_value_laws.specs.Whole.{at_yield}
use Rattle.esb_values.specs.ListsFirst.{at_async_list}
use Rattle.esb_values.proofs.ReadFirst.{at_other}
use Rattle.esb_values.proofs.Whole.{others}
use Rattle.esb_values.proofs.values.Assignments.value.Goals as goal

pub yielded-requires : goal.yielded-requires
yielded-requires g c = record { inner = c.requires.owed.inner; fits = c.requires.fits }

pub async_arrow-requires : goal.async_arrow-requires
async_arrow-requires g c = record { inner = c.requires.owed.inner; blocks = c.requires.owed.blocks; fits = c.requires.fits }

pub name_arrow-requires : goal.name_arrow-requires
name_arrow-requires g c = record { inner = c.requires.owed.inner; blocks = c.requires.owed.blocks; fits = c.requires.fits }

pub assigned-requires : goal.assigned-requires
assigned-requires g c = record { left = c.requires.owed.lefts; inner = c.requires.owed.inner; same = c.requires.owed.same_text; room = omega arith; fits = c.requires.fits }

pub returns : goal.returns
returns g c =
    let text = c.args.self.now.accesses.now.parser.now.text.now in
    let h1 : at_yield text c.args.context c.args.at ≡ false = first_of (cc, grind (arith, common_steps)) in
    let h2 : at_async_name text c.args.at ≡ false = first_of (cc, grind (arith, common_steps)) in
    let h3 : at_name text c.args.context c.args.at ≡ false = first_of (cc, grind (arith, common_steps)) in
    let h4 : is_left_parenthesis (behind text c.args.at).kind ≡ false = first_of (cc, grind (arith, common_steps)) in
    let h5 : at_async_list text c.args.at ≡ false = first_of (cc, grind (arith, common_steps)) in
    let e = at_other text c.args.context (g.R.Parts.primary c.args.context text) (g.R.Parts.arguments c.args.context text) (g.R.Parts.template c.args.context text) (below (g.R.Readers.expression true (inside c.args.context)) text) (λ d. below (g.R.Readers.expression false d) text) (λ d. g.R.Blocks.block d text) c.args.levels (c.requires.owed.lists_first c.args.context c.args.levels) c.args.at h1 h2 h3 h4 h5 in
    let o = others text c.args.context (g.R.Parts.primary c.args.context text) (g.R.Parts.arguments c.args.context text) (g.R.Parts.template c.args.context text) (below (g.R.Readers.expression true (inside c.args.context)) text) (λ d. below (g.R.Readers.expression false d) text) (λ d. g.R.Blocks.block d text) c.args.levels (g.R.Readers.left c.args.context text) (c.requires.owed.chains c.args.context) c.args.at in
    rw (e ∙ sym o) c.assigned.ensures
