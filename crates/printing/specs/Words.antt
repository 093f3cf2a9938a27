-- The words of outcomes that the other pages use.
pub use Rattle.sheet.specs.declared.fault.Fault.{Fault}
pub use Rattle.sheet.specs.declared.fault.Refusal.TheVariants.{UnfitList, ShortText}
pub use Rattle.sheet.specs.Refusals.{words, fault, and_then, refuse_if}
pub use Rattle.sheet.specs.Outcomes.{Outcome, written}
