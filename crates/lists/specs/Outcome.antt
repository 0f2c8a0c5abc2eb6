-- What a call of an interface does, as a value.

-- what a call answers, and the value that it leaves there
pub record Outcome (A S : Type 0) : Type 0 where
  pub answer : A
  pub after : S

-- from its two parts
abbrev pub outcome : {A S : Type 0} → A → S → Outcome A S
outcome a s = record { answer = a; after = s }
