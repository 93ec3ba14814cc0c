mod GroupedSets
