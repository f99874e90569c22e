-- The tables of the layers, which hold what a layer strikes or renames.
use Rattle.std.specs.Prelude.{cond, List, [], ◌∷◌, ◌++◌, length, Ok, Err, Result, nat_lt}
use Rattle.vocabulary.specs.declared.refusal.Refusal.{Refusal}
use Rattle.vocabulary.specs.declared.refusal.Refusal.TheVariants.{TableFull}

-- a table with a further entry: 32 is all that it holds
abbrev pub added : {T : Type 0} → T → List T → Result (List T) Refusal
added new entries = cond (nat_lt (length entries) 32) (Ok (entries ++ new ∷ [])) (Err TableFull)
