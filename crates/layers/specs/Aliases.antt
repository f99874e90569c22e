-- Aliases: programs that a layer has cut as others.
use Rattle.std.specs.Prelude.{◌≡◌, ℕ, Bool, cond, ◌&&◌, List, [], ◌∷◌, Ok, Result, ◌==◌, nat_lt}
use Rattle.std.specs.List.{list_any}
use Rattle.vocabulary.specs.declared.refusal.Refusal.{Refusal}
use Rattle.capability.specs.Meaning.{Meaning}
use Rattle.layers.specs.Tables.{added}
use Rattle.layers.specs.declared.aliases.Entry.{Entry}

abbrev pub entry : ℕ → ℕ → Entry
entry p q = record { program = record { 0 = p }; cut_as = record { 0 = q } }

-- whether an entry is that of a program
abbrev pub of_program : ℕ → Entry → Bool
of_program p x = x.program.0 == p

-- whether a program has an entry
abbrev pub aliased : List Entry → ℕ → Bool
aliased entries p = list_any (of_program p) entries

-- the program that a program is cut as: that of its entry, or itself
abbrev pub alias_of : List Entry → ℕ → ℕ
alias_of [] p = p
alias_of (x ∷ xs) p = cond (of_program p x) x.cut_as.0 (alias_of xs p)

-- the entries with that of a program replaced
abbrev pub renamed : ℕ → ℕ → List Entry → List Entry
renamed p q [] = []
renamed p q (x ∷ xs) = cond (of_program p x) (entry p q ∷ xs) (x ∷ renamed p q xs)

-- the entries after an alias: the entry of a program is replaced, and a further one may find no room
abbrev pub after_alias : ℕ → ℕ → List Entry → Result (List Entry) Refusal
after_alias p q entries = cond (aliased entries p) (Ok (renamed p q entries)) (added (entry p q) entries)

-- an alias that was taken: program p is cut as q now, and any other as before
pub record Alias (p q : ℕ) (before after : List Entry) : Type 0 where
  pub table : after_alias p q before ≡ Ok after
  pub cuts : (n : ℕ) → alias_of after n ≡ cond (n == p) q (alias_of before n)

-- what a meaning is where programs (0 to 255) are cut as their aliases: the step is taken once
abbrev pub cutting_as : List Entry → Meaning → Meaning
cutting_as entries below = record { mills = below.mills; able = λ p m. nat_lt p 256 && below.able (alias_of entries p) m }
