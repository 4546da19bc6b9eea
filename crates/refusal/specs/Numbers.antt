-- The number of each refusal. Every contract that speaks of a refusal does so by this definition.
use Rattle.std.specs.Prelude.{ℕ}
use Rattle.refusal.specs.declared.Refusal.{Refusal}
use Rattle.refusal.specs.declared.Refusal.TheVariants.{
  KeyLoaded,
  KeyLength,
  NoKey,
  NotBegun,
  SessionOpen,
  IvLength,
  IvUsed,
  BookFull,
  TapeLength,
  Running,
  Halted,
  OverTape,
  PositionLimit,
  BeforeFirst,
  PastLast,
  BadLine,
}

abbrev pub numbered : Refusal → ℕ
numbered KeyLoaded = 1
numbered KeyLength = 2
numbered NoKey = 3
numbered NotBegun = 4
numbered SessionOpen = 5
numbered IvLength = 6
numbered IvUsed = 7
numbered BookFull = 8
numbered TapeLength = 9
numbered Running = 10
numbered Halted = 11
numbered OverTape = 12
numbered PositionLimit = 13
numbered BeforeFirst = 14
numbered PastLast = 15
numbered BadLine = 16
