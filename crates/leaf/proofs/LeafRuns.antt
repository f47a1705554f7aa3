-- Each call on the bye and on Peterson's lock has one outcome. Assumes nothing.
use Rattle.std.proofs.Common.{get_or, sym, ap}
use Rattle.lock.specs.declared.Phase.{Phase}
use Rattle.lock.specs.declared.Phase.TheVariants.{Out}
use Rattle.lock.specs.declared.Call.{Call}
use Rattle.leaf.specs.declared.bye.Bye.{Bye}
use Rattle.leaf.specs.declared.peterson.BoxRecord.{BoxRecord}
use Rattle.leaf.specs.declared.peterson.Peterson.{Peterson}
use Rattle.leaf.specs.Boards.{Outcome, outcome}
use Rattle.leaf.specs.ByeLines.{bye, bye_board, ByeTakes}
use Rattle.leaf.specs.PetersonLines.{peterson, peterson_board, PetersonTakes}
use Rattle.lock.proofs.Runs.{Ran, Runs}

abbrev bye_ran : Outcome Phase → Ran Bye
bye_ran o = record { reply = o.reply; after = record { phase = get_or o.board.boxes 0 Out; bids = o.board.bids } }

abbrev pub bye_run : Bye → Call → Ran Bye
bye_run s c = bye_ran (outcome bye c (bye_board s))

pub bye_runs : Runs ByeTakes bye_run
bye_runs s t c r taken = sym (ap bye_ran taken)

abbrev peterson_ran : Outcome BoxRecord → Ran Peterson
peterson_ran o = record { reply = o.reply; after = record { boxes = o.board.boxes; registers = o.board.registers; bids = o.board.bids } }

abbrev pub peterson_run : Peterson → Call → Ran Peterson
peterson_run s c = peterson_ran (outcome peterson c (peterson_board s))

pub peterson_runs : Runs PetersonTakes peterson_run
peterson_runs s t c r taken = sym (ap peterson_ran taken)
