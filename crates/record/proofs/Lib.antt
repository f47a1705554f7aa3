mod CallBytes
mod Faithfulness
mod Numbers
mod Passing
mod Putting
mod Sequence
mod Walk
