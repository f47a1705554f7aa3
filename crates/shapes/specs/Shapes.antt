-- What the piles that are offered mean, and what they are just made. Assumes nothing.
use Rattle.lock.specs.Meaning.{Meaning, Form}
use Rattle.leaf.specs.declared.bye.Bye.{Bye}
use Rattle.leaf.specs.declared.peterson.Peterson.{Peterson}
use Rattle.leaf.specs.ByeLines.{bye_made, bye_form}
use Rattle.leaf.specs.PetersonLines.{peterson_made, peterson_form}
use Rattle.pile.specs.declared.Pile.{Pile}
use Rattle.pile.specs.Forms.{piled}

-- Peterson's lock over two of its kind: four boxes
abbrev pub Four : Type 0
Four = Pile Peterson Peterson Peterson

-- pile 4: Peterson's lock over two such piles: eight boxes
abbrev pub Eight : Type 0
Eight = Pile Peterson Four Four

-- pile 6: Peterson's lock over a bye and Peterson's lock: three boxes
abbrev pub Three : Type 0
Three = Pile Peterson Bye Peterson

-- the piles by what they mean, what their calls do and what they are just made

abbrev pub four_form : Form Four
four_form = piled peterson_form peterson_form peterson_form

abbrev pub eight_form : Form Eight
eight_form = piled peterson_form four_form four_form

abbrev pub three_form : Form Three
three_form = piled peterson_form bye_form peterson_form

abbrev pub eight_means : Eight → Meaning
eight_means = eight_form.meaning

abbrev pub three_means : Three → Meaning
three_means = three_form.meaning

abbrev pub four_made : Four
four_made = record { top = peterson_made; left = peterson_made; right = peterson_made }

abbrev pub eight_made : Eight
eight_made = record { top = peterson_made; left = four_made; right = four_made }

abbrev pub three_made : Three
three_made = record { top = peterson_made; left = bye_made; right = peterson_made }
