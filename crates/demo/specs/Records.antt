-- A trace with filler after its first 37 bytes.
use Rattle.std.specs.Prelude.{ℕ, List, ◌++◌, take, drop, replicate}

abbrev pub laid_out : List ℕ → List ℕ
laid_out trace = take 37 trace ++ (replicate 1183 0 ++ drop 37 trace)

abbrev pub trace_of : List ℕ → List ℕ
trace_of bytes = take 37 bytes ++ drop 1220 bytes
