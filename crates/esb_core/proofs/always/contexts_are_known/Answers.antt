use Rattle.esb_core.proofs.Pushed.{contexts-pushed}
use Rattle.esb_core.proofs.Actives.{active-is, is-active, active-inside, refused-leaves, disposed-gone, disposed-unknown}
use Rattle.esb_core.proofs.always.contexts_are_known.Goals as goal

pub returns-clause-one_more : goal.returns-clause-one_more
returns-clause-one_more c = λ before event. contexts-pushed before event

pub returns-clause-refused : goal.returns-clause-refused
returns-clause-refused c = λ before packet text is what. refused-leaves before packet is text what

pub returns-clause-disposed : goal.returns-clause-disposed
returns-clause-disposed c = λ before packet key is what unsettled. disposed-gone before packet is key what unsettled

pub returns-clause-unknown : goal.returns-clause-unknown
returns-clause-unknown c = λ before packet key is what. disposed-unknown before packet is key what

pub returns-clause-active : goal.returns-clause-active
returns-clause-active c = λ events key n legal. (active-is events key n legal, is-active events key n legal)

pub returns-clause-inside : goal.returns-clause-inside
returns-clause-inside c = λ events key n legal is. active-inside events key n legal is
