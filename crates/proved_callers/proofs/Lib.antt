mod LiftLemmas
