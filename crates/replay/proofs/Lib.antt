mod Counting
mod Gaps
mod Logs
mod Overtakes
mod SoFar
