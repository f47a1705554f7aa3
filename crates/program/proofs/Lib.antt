mod Joining
mod Reporting
mod TurnedRound
mod TwoBoxes
